-- The fault of an engine, as one of an opening. (This project.)
use Rattle.engine_api.specs.declared.fault.EngineFault.{EngineFault}
use Rattle.engine_api.specs.declared.fault.EngineFault.TheVariants.{Code as code, Device as device, NotAVolume as not_a_volume, Memory as memory}
use Rattle.xid_recovery.specs.declared.report.OpenFault.{OpenFault}
use Rattle.xid_recovery.specs.declared.report.OpenFault.TheVariants.{Device, NotAVolume, Memory}

-- as an opening tells it; a code never comes
abbrev pub opened : EngineFault → OpenFault
opened (code it) = Memory
opened device = Device
opened (not_a_volume file) = NotAVolume file
opened memory = Memory

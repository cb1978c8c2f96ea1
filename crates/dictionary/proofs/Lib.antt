pub mod DefinitionLemmas
pub mod EntryLemmas
pub mod StepLemmas
pub mod TellsLemmas

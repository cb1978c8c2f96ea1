-- They are put behind no bytes.
use Rattle.std.proofs.Common.{[], length, refl}
use Rattle.frame_codec.specs.Header.{head_of}
use Rattle.frame_codec.proofs.LayoutLemmas.{front_put, frame_put}
use Rattle.frame_codec.proofs.laws.frame_in_parts.Goals as goal

pub returns : goal.returns
returns c prev at event front is =
    frame_put prev at 0 event [] front _ refl
    (front_put at (length event.body) event [] (head_of at event.kind (length event.body)) front refl refl is) refl

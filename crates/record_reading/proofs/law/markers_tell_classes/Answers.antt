use Rattle.record_reading.proofs.MarkerLaws.{class_is, is_class}
use Rattle.record_reading.proofs.law.markers_tell_classes.Goals as goal

pub returns : goal.returns
returns c = λ classes extent name v. (class_is classes extent name v, λ h. is_class classes extent name v h.0 h.1)

-- Each clause by its lemma.
use Rattle.plain_drive.proofs.ControlUpdate.{calls_update, new_firmware, reset_firmware}
use Rattle.plain_drive.proofs.control_update.calls_are_control_update.Goals as goal

pub returns : goal.returns
returns c = record { update = calls_update; new = new_firmware; reset = reset_firmware }

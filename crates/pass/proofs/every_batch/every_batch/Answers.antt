-- Each clause is a lemma.
use Rattle.pass.proofs.BatchHolds.{batch_holds}
use Rattle.pass.proofs.Batches.{room_is_enough, batches_join, texts_join, no_byte_lost}
use Rattle.pass.proofs.every_batch.every_batch.Goals as goal

pub returns : goal.returns
returns c = record { holds = batch_holds; room = room_is_enough; join = batches_join; texts = texts_join; lossless = no_byte_lost }

-- The invariant of the loop of `drive_batch`: no block is refused yet, and the rest of the batch is what the iterator has left.
use Rattle.std.proofs.Common.{◌≡◌, false}
use Rattle.std.specs.Iterator.Adapters.{take_source, take_count}
use Rattle.std.specs.Slice.Iter.{chunks_rest, chunks_size}
use Rattle.pass.proofs.Going.{Going}
use Rattle.pass.proofs.batch.drive_batch.Given as goal

abbrev pub invariant-loop-block : goal.invariant-loop-block
invariant-loop-block l = record {
  size : chunks_size (take_source l.block-iterator) ≡ 512;
  accepted : l.w.refused ≡ false;
  going : Going l.fn.pass l.blocks l.fn.out (take_count l.block-iterator) (chunks_rest (take_source l.block-iterator)) l.pass l.w l.out;
}

-- The laws of the outcomes.
use Rattle.vision.proofs.Radius.{refusal}
use Rattle.vision.proofs.Outcomes.{tracking_either, nan_refused, seeding_either, nan_reseeds, taken_restarts}
use Rattle.vision.proofs.laws.outcomes_are_few.Goals as goal

pub returns : goal.returns
returns c = record {
  tracking = tracking_either;
  nan_distance = nan_refused;
  first_refusal = refusal;
  seeding = seeding_either;
  nan_deviation = nan_reseeds;
  taken = taken_restarts;
}

-- r is the rest after so many doublings.
use Rattle.std.proofs.Common.{◌≡◌, ◌*◌, ◌%◌, ◌^◌, ◌<◌, ◌≤◌}
use Rattle.ieee754.proofs.remainder.doubled_rest.Given as goal

abbrev pub invariant-loop : goal.invariant-loop
invariant-loop l = (l.r ≡ l.m * 2 ^ l.counter % 13176795) × (l.r < 13176795) × (l.counter ≤ l.k)

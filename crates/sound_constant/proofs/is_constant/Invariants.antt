-- `is_constant` compares every number with the first, which is not 0. The invariant: if all so far were equal, each is the first.
use Rattle.std.proofs.Common.{◌≡◌, true, take, replicate}
use Rattle.sound_constant.proofs.is_constant.Given as goal

abbrev pub invariant-loop-x : goal.invariant-loop-x
invariant-loop-x g l = l.same ≡ true → take l.x-index l.lane ≡ replicate l.x-index l.first

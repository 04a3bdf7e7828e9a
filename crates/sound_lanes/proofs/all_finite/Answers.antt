-- `sound_lanes::all_finite` meets its contract: after each rate the result is the test over the rates so far. Assumes nothing.
use Rattle.std.proofs.Common.{◌≡◌, subst, rules}
use Rattle.std.proofs.lemmas.Fn.{fold_over, slice_gives, fronts}
use mathlib.Core.Path.{refl}
use Rattle.numbers.specs.Words.{finite}
use Rattle.numbers.specs.Lists.{all}
use Rattle.sound_lanes.proofs.Gathered.{all_push}
use Rattle.sound_lanes.proofs.all_finite.Goals as goal

pub returns : goal.returns
returns c =
    subst (λ l. c.fold.result ≡ all finite l) c.iter.ensures.rest
    (fold_over fronts (λ y. y.now) _ (λ ys ok. ok ≡ all finite ys) _ (λ ys ok x b f' j k. let more = all_push finite ys x.now in search rules)
    _ _ _ _ (slice_gives c.iter.result) refl c.fold.ensures.ran)

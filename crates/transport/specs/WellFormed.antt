-- docs/assurance/RULES.md, "Well formed": when a transport over n frames is well formed, as a test and as a record of
-- facts.
use Rattle.std.specs.Prelude.{ℕ, ◌≤◌, ◌<◌, ◌≡◌, Bool, true, not, ◌&&◌, ◌||◌, T, leb, ltb, Some}
use Rattle.numbers.specs.Frames.{most}
use Rattle.playback_position.specs.Positions.{within}
use Rattle.transport.specs.declared.Transport.{Transport}

-- its loop is inside the n frames; playing implies position < n; position at most 4,294,967,296
abbrev pub well_formed_transport : ℕ → Transport → Bool
well_formed_transport n t = within n t.loop_region && (not t.playing || ltb t.position n)
    && leb t.position most

-- the same, fact by fact
pub record WellFormedTransport (n : ℕ) (t : Transport) : Type 0 where
  pub loop : T (within n t.loop_region)
  pub here : t.playing ≡ true → t.position < n
  pub low : t.position ≤ most

-- playing inside the loop (s, e)
pub record Inside (s e : ℕ) (t : Transport) : Type 0 where
  pub loop : t.loop_region ≡ Some (s, e)
  pub going : t.playing ≡ true
  pub from : s ≤ t.position
  pub to : t.position < e

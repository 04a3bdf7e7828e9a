-- docs/assurance/RULES.md, "What must change shape": kira's `while` loops of transport.rs, to compare with the
-- remainders. A `while` runs at most k times here. As many as the position (down) or the bound (up) are enough, since
-- a loop is not empty.
use Rattle.std.specs.Prelude.{ℕ, zero, suc, ◌+◌, ◌-◌, false, cond, leb, ltb, eqb, Option, Some, None}
use Rattle.transport.specs.declared.Transport.{Transport}
use Rattle.transport.specs.Moves.{landed}

-- while p >= e { p -= l }
unfoldable pub lowered : ℕ → ℕ → ℕ → ℕ → ℕ
lowered zero e l p = p
lowered (suc k) e l p = cond (leb e p) (lowered k e l (p - l)) p

-- while p < b { p += l }
unfoldable pub raised : ℕ → ℕ → ℕ → ℕ → ℕ
raised zero b l p = p
raised (suc k) b l p = cond (ltb p b) (raised k b l (p + l)) p

-- while position >= loop_end { position -= loop_end - loop_start }
abbrev pub while_at_end : Option (ℕ × ℕ) → ℕ → ℕ
while_at_end None p = p
while_at_end (Some (s, e)) p = lowered p e (e - s) p

-- while position < loop_start { position += loop_end - loop_start }
abbrev pub while_below_start : Option (ℕ × ℕ) → ℕ → ℕ
while_below_start None p = p
while_below_start (Some (s, e)) p = raised s s (e - s) p

-- while position <= loop_start { position += loop_end - loop_start }
abbrev pub while_at_start : Option (ℕ × ℕ) → ℕ → ℕ
while_at_start None p = p
while_at_start (Some (s, e)) p = raised (suc s) (suc s) (e - s) p

-- if position == 0 { playing = false } else { position -= 1 }
abbrev pub less_one : Transport → ℕ → Transport
less_one t p =
    record {
      position = cond (eqb p 0) p (p - 1);
      loop_region = t.loop_region;
      playing = cond (eqb p 0) false t.playing;
    }

-- increment_position
unfoldable pub increment_position : ℕ → Transport → Transport
increment_position n t = cond t.playing (landed n t (while_at_end t.loop_region (t.position + 1))) t

-- decrement_position
unfoldable pub decrement_position : Transport → Transport
decrement_position t = cond t.playing (less_one t (while_at_start t.loop_region t.position)) t

-- seek_to
unfoldable pub seek_to : ℕ → Transport → ℕ → Transport
seek_to n t q =
    landed n t (cond (ltb t.position q) (while_at_end t.loop_region q) (while_below_start t.loop_region q))

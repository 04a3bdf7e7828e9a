-- docs/assurance/RULES.md, "The transport": the first position and the three moves, by remainders. Loop (s, e), end
-- exclusive, L = e - s.
use Rattle.std.specs.Prelude.{ℕ, suc, ◌+◌, ◌-◌, ◌%◌, Bool, true, false, not, ◌&&◌, cond, leb, ltb, eqb}
use Rattle.std.specs.Prelude.{Option, Some, None}
use Rattle.transport.specs.declared.Transport.{Transport}

-- (a - b) mod l, never negative
abbrev pub cycled : ℕ → ℕ → ℕ → ℕ
cycled a b l = cond (leb b a) ((a - b) % l) (l - 1 - (b - a - 1) % l)

-- p, wrapped into the loop if it is at or past the loop's end
abbrev pub under : Option (ℕ × ℕ) → ℕ → ℕ
under None p = p
under (Some (s, e)) p = cond (leb e p) (s + cycled p s (e - s)) p

-- p, wrapped into the loop if it is below the loop's start
abbrev pub over : Option (ℕ × ℕ) → ℕ → ℕ
over None p = p
over (Some (s, e)) p = cond (ltb p s) (s + cycled p s (e - s)) p

-- the position after a step back from p; without a loop 0 stays 0
abbrev pub back : Option (ℕ × ℕ) → ℕ → ℕ
back None p = p - 1
back (Some (s, e)) p = cond (leb p s) (s + cycled p (suc s) (e - s)) (p - 1)

-- whether a step back from p passes the sound's beginning
abbrev pub first : Option (ℕ × ℕ) → ℕ → Bool
first None p = eqb p 0
first (Some (s, e)) p = false

-- the transport at q: at or past n it stops playing; nothing restarts it
abbrev pub landed : ℕ → Transport → ℕ → Transport
landed n t q = record { position = q; loop_region = t.loop_region; playing = t.playing && ltb q n }

-- one step forward in n frames
unfoldable pub forward : ℕ → Transport → Transport
forward n t = cond t.playing (landed n t (under t.loop_region (t.position + 1))) t

-- one step backward
unfoldable pub backward : Transport → Transport
backward t =
    cond t.playing
    (record {
      position = back t.loop_region t.position;
      loop_region = t.loop_region;
      playing = not (first t.loop_region t.position);
    })
    t

-- whether p is at or past the loop's end
abbrev pub at_end : Option (ℕ × ℕ) → ℕ → Bool
at_end None p = false
at_end (Some (s, e)) p = leb e p

-- whether p is at or before the loop's start
abbrev pub at_start : Option (ℕ × ℕ) → ℕ → Bool
at_start None p = false
at_start (Some (s, e)) p = leb p s

-- whether the next step wraps: backward from the loop's start or before it, forward onto its end or past it
unfoldable pub wraps : Bool → Transport → Bool
wraps backwards t = t.playing
    && cond backwards (at_start t.loop_region t.position) (at_end t.loop_region (t.position + 1))

-- a seek to q in n frames: upward it wraps at the loop's end, downward at its start
unfoldable pub seek : ℕ → Transport → ℕ → Transport
seek n t q = landed n t (cond (ltb t.position q) (under t.loop_region q) (over t.loop_region q))

-- the same transport with another loop, or none
abbrev pub reloop : Transport → Option (ℕ × ℕ) → Transport
reloop t r = record { position = t.position; loop_region = r; playing = t.playing }

-- with reverse, the first position is N - 1 - start
abbrev pub opening : ℕ → Bool → ℕ → ℕ
opening n reverse start = cond reverse (n - 1 - start) start

-- the transport that a sound begins with
abbrev pub begun : ℕ → Bool → Option (ℕ × ℕ) → ℕ → Transport
begun n reverse loop start = record { position = opening n reverse start; loop_region = loop; playing = true }

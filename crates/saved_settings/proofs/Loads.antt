-- The results that loading can have, from the tests of the code. Assumes nothing.
use Rattle.std.proofs.Common.{◌≡◌, ℕ, ◌≤◌, Bool, true, false, cond, List, [], length, take, sym, refl, ap, ◌∙◌, arith, get_or-take}
use Rattle.std.specs.Prelude.{Ok, Err}
use Rattle.refusals.specs.declared.Refusal.{Refusal}
use Rattle.refusals.specs.Numbers.{number}
use Rattle.byte_layout.specs.declared.Parsed.{Parsed}
use Rattle.byte_layout.specs.Rows.{sound}
use Rattle.byte_layout.specs.Reads.{bad, good, steps, view}
use Rattle.saved_settings.specs.declared.Version.{Version}
use Rattle.saved_settings.specs.declared.Version.TheVariants.{First, Second}
use Rattle.saved_settings.specs.Tables.{first_rows, second_rows}
use Rattle.saved_settings.specs.Records.{version_number, layout, size, saved_of, shown, judged, second, version_in, loaded, loaded_of}

pub first_sound : sound first_rows ≡ true
unfolding sound first_rows
first_sound = refl

pub second_sound : sound second_rows ≡ true
unfolding sound second_rows
second_sound = refl

pub sounds : (v : Version) → sound (layout v) ≡ true
sounds First = first_sound
sounds Second = second_sound

pub few : (v : Version) → length (layout v) ≤ 80
unfolding first_rows second_rows
few First = omega arith
few Second = omega arith

-- the fields are among the first numbers
first_saved : (vs : List ℕ) → saved_of 1 (take 9 vs) ≡ saved_of 1 vs
first_saved vs =
    rw (get_or-take 9 vs 4 0 (omega arith), get_or-take 9 vs 5 0 (omega arith), get_or-take 9 vs 6 0 (omega arith), get_or-take 9 vs 7 0 (omega arith), get_or-take 9 vs 8 0 (omega arith)) refl

second_saved : (vs : List ℕ) → saved_of 2 (take 10 vs) ≡ saved_of 2 vs
second_saved vs =
    rw (get_or-take 10 vs 4 0 (omega arith), get_or-take 10 vs 5 0 (omega arith), get_or-take 10 vs 6 0 (omega arith), get_or-take 10 vs 7 0 (omega arith), get_or-take 10 vs 8 0 (omega arith), get_or-take 10 vs 9 0 (omega arith)) refl

among : (v : Version) (vs : List ℕ) → saved_of (version_number v) (take (length (layout v)) vs) ≡ saved_of (version_number v) vs
unfolding first_rows second_rows
among First vs = first_saved vs
among Second vs = second_saved vs

module _ (reader : ℕ) (s : List ℕ) where
  abbrev v : Version
  v = version_in reader s

  abbrev n : ℕ
  n = version_number (version_in reader s)

  by_version : loaded reader s ≡ judged n (steps (layout v) (good (size n) [] s))
  unfolding loaded
  by_version = go (second reader s)
    where
      go : (b : Bool) → cond b (judged 2 (steps second_rows (good 26 [] s))) (judged 1 (steps first_rows (good 25 [] s)))
          ≡ judged (version_number (cond b Second First)) (steps (layout (cond b Second First)) (good (size (version_number (cond b Second First))) [] s))
      go true = refl
      go false = refl

  pub refused_load : (r : Refusal) → bad (number r) ≡ steps (layout v) (good (size n) [] s) → loaded_of (Err r) ≡ loaded reader s
  unfolding judged
  refused_load r e = sym (by_version ∙ ap (judged n) (sym e))

  pub shown_load : (p : Parsed) → view s (length (layout v)) (Ok p) ≡ steps (layout v) (good (size n) [] s) → shown n (saved_of n p.values) ≡ loaded reader s
  unfolding judged
  shown_load p e = ap (shown n) (sym (among v p.values)) ∙ sym (by_version ∙ ap (judged n) (sym e))

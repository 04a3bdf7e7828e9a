-- A refusal is known by its number, and no refusal has the number 0, which stands for an accepted call. By cases.
use Rattle.std.specs.Prelude.{ℕ, ◌-◌, List, [], ◌∷◌, get_or, Result, Ok, Err}
use mathlib.Core.Path.{◌≡◌, refl, sym, ap, subst, ◌∙◌}
use mathlib.Core.Bool.{false}
use lib.Dec.{T, eqb}
use Rattle.refusals.specs.declared.Refusal.{Refusal}
use Rattle.refusals.specs.declared.Refusal.TheVariants.{State, SampleRate, FrameCount, Slice, StartPosition}
use Rattle.refusals.specs.declared.Refusal.TheVariants.{LoopRegion, PlaybackRate, Seek, Block, TimeStep, Lane}
use Rattle.refusals.specs.declared.Refusal.TheVariants.{Advance, Level, Ramp, Mark, Kind, Record, Truncated, Room}
use Rattle.refusals.specs.declared.Refusal.TheVariants.{LoopSlot, OtherHall, EmptySlot, Version, SavedField, Output}
use Rattle.refusals.specs.declared.Refusal.TheVariants.{OtherSound, OtherFrames, TwoHalves}
use Rattle.refusals.specs.Numbers.{number, number_of}

-- the refusals in the order of their numbers
abbrev in_order : List Refusal
in_order =
    State ∷ SampleRate ∷ FrameCount ∷ Slice ∷ StartPosition ∷ LoopRegion ∷ PlaybackRate ∷ Seek ∷ Block ∷
    TimeStep ∷ Lane ∷ Advance ∷ Level ∷ Ramp ∷ Mark ∷ Kind ∷ Record ∷ Truncated ∷ Room ∷ LoopSlot ∷
    OtherHall ∷ EmptySlot ∷ Version ∷ SavedField ∷ Output ∷ OtherSound ∷ OtherFrames ∷ TwoHalves ∷ []

abbrev named : ℕ → Refusal
named n = get_or in_order (n - 1) State

named_number : (r : Refusal) → named (number r) ≡ r
named_number State = refl
named_number SampleRate = refl
named_number FrameCount = refl
named_number Slice = refl
named_number StartPosition = refl
named_number LoopRegion = refl
named_number PlaybackRate = refl
named_number Seek = refl
named_number Block = refl
named_number TimeStep = refl
named_number Lane = refl
named_number Advance = refl
named_number Level = refl
named_number Ramp = refl
named_number Mark = refl
named_number Kind = refl
named_number Record = refl
named_number Truncated = refl
named_number Room = refl
named_number LoopSlot = refl
named_number OtherHall = refl
named_number EmptySlot = refl
named_number Version = refl
named_number SavedField = refl
named_number Output = refl
named_number OtherSound = refl
named_number OtherFrames = refl
named_number TwoHalves = refl

pub number_injective : (a b : Refusal) → number a ≡ number b → a ≡ b
number_injective a b e = sym (named_number a) ∙ ap named e ∙ named_number b

-- as a test
pub number_eqb : (r : Refusal) → eqb (number r) 0 ≡ false
number_eqb State = refl
number_eqb SampleRate = refl
number_eqb FrameCount = refl
number_eqb Slice = refl
number_eqb StartPosition = refl
number_eqb LoopRegion = refl
number_eqb PlaybackRate = refl
number_eqb Seek = refl
number_eqb Block = refl
number_eqb TimeStep = refl
number_eqb Lane = refl
number_eqb Advance = refl
number_eqb Level = refl
number_eqb Ramp = refl
number_eqb Mark = refl
number_eqb Kind = refl
number_eqb Record = refl
number_eqb Truncated = refl
number_eqb Room = refl
number_eqb LoopSlot = refl
number_eqb OtherHall = refl
number_eqb EmptySlot = refl
number_eqb Version = refl
number_eqb SavedField = refl
number_eqb Output = refl
number_eqb OtherSound = refl
number_eqb OtherFrames = refl
number_eqb TwoHalves = refl

pub number_not_0 : (r : Refusal) → number r ≡ 0 → ⊥
number_not_0 r h = subst T (number_eqb r) (rw h tt)

-- two answers are the same if they have the same number, and the same value where both are accepted
pub answers_same : {A : Type 0} (x y : Result A Refusal) → number_of x ≡ number_of y
    → ((a b : A) → x ≡ Ok a → y ≡ Ok b → a ≡ b) → x ≡ y
answers_same (Ok a) (Ok b) e h = ap Ok (h a b refl refl)
answers_same (Ok a) (Err r) e h = absurd (number_not_0 r (sym e))
answers_same (Err r) (Ok b) e h = absurd (number_not_0 r e)
answers_same (Err r) (Err q) e h = ap Err (number_injective r q e)

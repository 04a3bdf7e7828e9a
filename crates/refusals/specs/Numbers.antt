-- Refusals as numbers (docs/assurance/RULES.md, "Numbers and their refusals").
use Rattle.std.specs.Prelude.{ℕ, Result, Ok, Err}
use Rattle.refusals.specs.declared.Refusal.{Refusal}
use Rattle.refusals.specs.declared.Refusal.TheVariants.{State, SampleRate, FrameCount, Slice, StartPosition}
use Rattle.refusals.specs.declared.Refusal.TheVariants.{LoopRegion, PlaybackRate, Seek, Block, TimeStep, Lane}
use Rattle.refusals.specs.declared.Refusal.TheVariants.{Advance, Level, Ramp, Mark, Kind, Record, Truncated, Room}
use Rattle.refusals.specs.declared.Refusal.TheVariants.{LoopSlot, OtherHall, EmptySlot, Version, SavedField, Output}
use Rattle.refusals.specs.declared.Refusal.TheVariants.{OtherSound, OtherFrames, TwoHalves}

-- a refusal's number
abbrev pub number : Refusal → ℕ
number State = 1
number SampleRate = 2
number FrameCount = 3
number Slice = 4
number StartPosition = 5
number LoopRegion = 6
number PlaybackRate = 7
number Seek = 8
number Block = 9
number TimeStep = 10
number Lane = 11
number Advance = 12
number Level = 13
number Ramp = 14
number Mark = 15
number Kind = 16
number Record = 17
number Truncated = 18
number Room = 19
number LoopSlot = 20
number OtherHall = 21
number EmptySlot = 22
number Version = 23
number SavedField = 24
number Output = 25
number OtherSound = 26
number OtherFrames = 27
number TwoHalves = 28

-- the number of the refusal that a call answers, 0 if it is accepted
abbrev pub number_of : {A : Type 0} → Result A Refusal → ℕ
number_of (Ok x) = 0
number_of (Err r) = number r

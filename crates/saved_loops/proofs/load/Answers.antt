-- `saved_loops::load` meets its contract. Assumes nothing.
use mathlib.Core.Path.{◌≡◌, sym, ap, ap₂, ◌∙◌}
use mathlib.Core.Bool.{true, false, ◌&&◌}
use mathlib.Core.List.{[]}
use native.Mathlib.Omega.{arith}
use Rattle.std.proofs.lemmas.Result.{err_from_is_err_and}
use Rattle.std.specs.Prelude.{Ok}
use Rattle.byte_layout.specs.declared.Parsed.{Parsed}
use Rattle.byte_layout.specs.Reads.{good, steps, view}
use Rattle.byte_layout.proofs.Ways.{begun}
use Rattle.saved_loops.specs.Tables.{half_rows}
use Rattle.saved_loops.specs.Records.{well_formed, crc_right}
use Rattle.saved_loops.proofs.Loads.{half_sound, refused_load, short, long}
use Rattle.saved_loops.proofs.load.Goals.{In_ok-parsed, After-is_crc}
use Rattle.saved_loops.proofs.load.Goals as goal

pub read_rows-requires : goal.read_rows-requires
unfolding half_rows
read_rows-requires c = (omega (arith, ap (λ (x : Parsed). x.at) c.begin.ensures), omega arith, half_sound)

pub returns-in_err-parsed : goal.returns-in_err-parsed
unfolding half_rows
returns-in_err-parsed c =
    let s = c.args.s.now in
    let p = err_from_is_err_and c.from_residual.result c.from_residual.ensures.1 in
    rw (p.1, p.2) (refused_load s _ (c.in_err-parsed.ensures.0 ∙ ap (steps half_rows) (begun s 0 666 c.begin.result c.begin.ensures)))

read : (c : In_ok-parsed) → view c.args.s.now 23 (Ok c.in_ok-parsed.parsed) ≡ steps half_rows (good 666 [] c.args.s.now)
unfolding half_rows
read c = c.in_ok-parsed.ensures.0 ∙ ap (steps half_rows) (begun c.args.s.now 0 666 c.begin.result c.begin.ensures)

pub returns-then-s-lt666 : goal.returns-then-s-lt666
returns-then-s-lt666 c = short c.args.s.now c.in_ok-parsed.parsed (read (goal.at.returns-then-s-lt666 c).In_ok-parsed) c.if-s-lt666.true

both : (c : After-is_crc) → ◌&&◌ c.is_well_formed.result c.is_crc.result ≡ (well_formed c.words_of-words.result && crc_right c.args.s.now)
both c = ap₂ ◌&&◌ c.is_well_formed.ensures c.is_crc.ensures

pub returns-then-not-is_well_formed-is_crc : goal.returns-then-not-is_well_formed-is_crc
returns-then-not-is_well_formed-is_crc c =
    let p = goal.at.returns-then-not-is_well_formed-is_crc c in
    long c.args.s.now c.in_ok-parsed.parsed (read p.In_ok-parsed) c.words_of-words.result false c.if-s-lt666.false c.words_of-words.ensures
    (sym c.if-not-is_well_formed-is_crc.true ∙ both p.After-is_crc)

pub returns : goal.returns
returns c =
    let p = goal.at.returns c in
    long c.args.s.now c.in_ok-parsed.parsed (read p.In_ok-parsed) c.words_of-words.result true c.if-s-lt666.false c.words_of-words.ensures
    (sym c.if-not-is_well_formed-is_crc.false ∙ both p.After-is_crc)

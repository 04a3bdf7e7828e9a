-- `scan` takes the path of one rate where all rates are the same.
use mathlib.Core.Path.{sym, subst}
use mathlib.Core.List.{List}
use lib.Ieee.{Float}
use Rattle.sound_fast_reading.specs.Scans.{begun, Scannable, Scanned}
use Rattle.sound_fast_reading.proofs.Moves.{all_numbers}
use Rattle.sound_fast_path.proofs.scan.Goals as goal

pub goes_steadily-requires : goal.goes_steadily-requires
goes_steadily-requires c = all_numbers c.args.way.sample_rate c.args.way.dt c.args.rate.now c.requires.scannable.slow

pub bounds-rate-0 : goal.bounds-rate-0
bounds-rate-0 c = (c.goes_steadily.ensures c.if-goes_steadily.true).some

pub scan_held-requires : goal.scan_held-requires
scan_held-requires c =
    let a = c.args in
    let e = (c.goes_steadily.ensures c.if-goes_steadily.true).each in
    record { scannable = subst (λ (l : List Float). Scannable a.sound.now a.way l) e c.requires.scannable; scanned = subst (λ (l : List Float). Scanned a.sound.now a.way l (begun a.way) a.out.now) e c.requires.scanned }

pub returns-then-goes_steadily : goal.returns-then-goes_steadily
returns-then-goes_steadily c =
    let a = c.args in
    let e = (c.goes_steadily.ensures c.if-goes_steadily.true).each in
    subst (λ (l : List Float). Scanned a.sound.now a.way l c.scan_held.result c.scan_held.new.out) (sym e) c.scan_held.ensures

pub returns : goal.returns
returns c = c.scan.ensures

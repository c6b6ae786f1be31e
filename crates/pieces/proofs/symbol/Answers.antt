-- `symbol`: a coordinate at fault is refused, else the machine takes it.
use Rattle.std.proofs.Common.{refl, sym, subst, rules}
use Rattle.nearest.specs.Line.{BothInRange}
use Rattle.machine.specs.Parts.{whole}
use Rattle.machine.proofs.Sound.{sound-ready}
use Rattle.receiver_meaning.specs.Told.{fault_of}
use Rattle.piece_input.specs.Looks.{symbol_in}
use Rattle.piece_input.proofs.Places.{some-at, none-past}
use Rattle.pieces.proofs.Kept.{faulty-took, good-taking, good-took}
use Rattle.pieces.proofs.symbol.Goals as goal

pub returns-in-Some : goal.returns-in-Some
returns-in-Some c =
    let a = c.args in
    let y = symbol_in a.mark a.samples.now a.i in
    let at = some-at 4 (fault_of y) c.in-Some.place (search rules) in
    faulty-took a.core a.sums.now a.registers.now a.picks.now a.out.now y c.in-Some.place at.0 (rw at.0 at.1)

pub take_symbol-requires : goal.take_symbol-requires
take_symbol-requires c =
    let a = c.args in
    let y = symbol_in a.mark a.samples.now a.i in
    let past = none-past 4 (fault_of y) (search rules) in
    let good = (good-taking a.core a.sums.now a.registers.now a.picks.now a.out.now y (fault_of y) refl past).1 in
    let g = subst BothInRange (sym c.look-looked.ensures.points) good in
    let p = c.requires in
    record {
      t_value = (p.t_value.0, g.first-in, g.second-in);
      ready = (sound-ready (whole a.core a.sums.now a.registers.now a.picks.now) p.picks_value.0, p.picks_value.1);
    }

pub returns : goal.returns
returns c =
    let a = c.args in
    let y = symbol_in a.mark a.samples.now a.i in
    let past = none-past 4 (fault_of y) (search rules) in
    good-took a.core a.sums.now a.registers.now a.picks.now a.out.now y (fault_of y) refl _ c.look-looked.ensures.points past _ _ _ _ _
    c.take_symbol.ensures

-- The form of what a recorder writes: each record may stand where it stands (replay/proofs/Forms).
--   Ready p                        a symbol and a finish may stand there
--   Runs p rs                      the records rs may stand from there on, and a symbol and a finish after them
--   symbol-runs, open-runs, finish-formed   the records of a symbol, of an open and of a finish
use mathlib.Core.Path.{◌≡◌, refl, sym, ap, subst}
use mathlib.Core.Bool.{true}
use mathlib.Core.List.{List, [], ◌∷◌, ◌++◌}
use Prim.Native.Nat.{ℕ}
use Rattle.trellis.specs.Measure.{Two}
use Rattle.nearest.specs.declared.Received.{Received}
use Rattle.nearest.specs.declared.Received.TheVariants.{Heard, Missing}
use Rattle.records.specs.declared.Phase.{Phase}
use Rattle.records.specs.declared.Phase.TheVariants.{Start, Opened, Running, Over}
use Rattle.records.specs.declared.Role.TheVariants.{Symbol, Finish}
use Rattle.records.specs.Kinds.{kind_of, may_stand, begins}
use Rattle.points.specs.declared.Map.{Map}
use Rattle.points.specs.declared.Map.TheVariants.{Round, Square}
use Rattle.points.specs.declared.Accord.{Accord}
use Rattle.records.specs.Values.{Entry, open_entry, half_of, byte_fits, fits_from}
use Rattle.record_write.specs.Front.{word_entries, symbol_records, finish_records}
use Rattle.replay.proofs.Forms.{Formed, phase_after, formed-append, phase-append, words-formed}

pub record Ready (p : Phase) : Type 0 where
  pub symbol : may_stand p Symbol ≡ true
  pub finish : may_stand p Finish ≡ true
  pub begun : begins p ≡ true

pub ready-opened : Ready Opened
ready-opened = record { symbol = refl; finish = refl; begun = refl }

ready-running : Ready Running
ready-running = record { symbol = refl; finish = refl; begun = refl }

pub record Runs (p : Phase) (rs : List Entry) : Type 0 where
  pub formed : Formed p rs
  pub ready : Ready (phase_after p rs)

pub none_runs : (p : Phase) → Ready p → Runs p []
none_runs p r = record { formed = tt; ready = r }

pub runs_append : (p : Phase) (rs qs : List Entry) → Runs p rs → Runs (phase_after p rs) qs → Runs p (rs ++ qs)
runs_append p rs qs a b = record { formed = formed-append p rs qs a.formed b.formed; ready = subst Ready (sym (phase-append p rs qs)) b.ready }

pub symbol-runs : (p : Phase) → Ready p → (y : Two Received) (ws : List ℕ) → Runs p (symbol_records y ws)
unfolding kind_of fits_from byte_fits half_of
symbol-runs p r y ws = go y.first y.second
  where
    k : Formed Running (word_entries ws) × (phase_after Running (word_entries ws) ≡ Running)
    k = words-formed Running refl ws

    after : Ready (phase_after Running (word_entries ws))
    after = subst Ready (sym k.1) ready-running

    go : (a b : Received) → Runs p (symbol_records (record { first = a; second = b }) ws)
    go (Heard a) (Heard b) = record { formed = (r.symbol, refl, refl, k.0); ready = after }
    go (Heard a) Missing = record { formed = (r.symbol, refl, refl, k.0); ready = after }
    go Missing (Heard b) = record { formed = (r.symbol, refl, refl, k.0); ready = after }
    go Missing Missing = record { formed = (r.symbol, refl, refl, k.0); ready = after }

pub open-runs : (k : Accord) (w s : ℕ) → Runs Start (open_entry k w s ∷ [])
unfolding kind_of fits_from byte_fits
open-runs k w s = go k.map
  where
    go : (n : Map) → Runs Start (open_entry (record { map = n; u = k.u }) w s ∷ [])
    go Round = record { formed = (refl, refl, refl, tt); ready = ready-opened }
    go Square = record { formed = (refl, refl, refl, tt); ready = ready-opened }

-- after a finish and its words the capture may end
pub finish-formed : (p : Phase) → Ready p → (ws : List ℕ) → Formed p (finish_records ws) × (begins (phase_after p (finish_records ws)) ≡ true)
unfolding kind_of fits_from
finish-formed p r ws =
    let k = words-formed Over refl ws in
    ((r.finish, refl, refl, k.0), ap begins k.1)

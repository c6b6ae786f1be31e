-- `run`: what is held of a last line is within the line.
use Rattle.std.proofs.Common.{◌≤◌, [], rules}
use Rattle.record_files.proofs.run.Goals as goal

pub at_end-requires : goal.at_end-requires
at_end-requires g c =
    let h : c.in-Some.t.part.held ≤ 65536 = c.in-Some.ensures.last_taken.1 (record { ref_ptr = (0, 0); now = [] }) in
    search rules

-- What the code of one symbol gives, in terms of the machine.
--   outlook_of rx y       what the symbol y would make of the receiver
--   TookIs               result, arrays and output are those of the outcome
use Rattle.std.specs.Prelude.{ℕ, ◌≡◌, List, ◌++◌, length, drop}
use Rattle.trellis.specs.Measure.{Two}
use Rattle.nearest.specs.declared.Received.{Received}
use Rattle.nearest.specs.Found.{weighed_of}
use Rattle.machine.specs.declared.Receiver.{Receiver}
use Rattle.one_symbol.specs.declared.Outlook.{Outlook}
use Rattle.one_symbol.specs.declared.Took.{Took}
use Rattle.registers.specs.Registers.{words_before}
use Rattle.select.specs.Select.{prev_in}
use Rattle.machine.specs.Machine.{next_sums, next_steps, numbers_in, agreed_of, Outcome}
use Rattle.machine.specs.Parts.{whole}

abbrev pub outlook_of : Receiver → Two Received → Outlook
outlook_of rx y =
    record {
      sums = next_sums rx y;
      steps = next_steps rx y;
      ways = words_before rx.registers (next_steps rx y) 0;
      i3 = (weighed_of rx.core.accord y).i3;
      numbers = numbers_in rx y;
      state = prev_in (next_steps rx y) 0;
      agreed = agreed_of rx y;
    }

pub record TookIs (o : Outcome) (r : Took) (sums registers picks before after : List ℕ) : Type 0 where
  pub receiver : whole r.core sums registers picks ≡ o.receiver
  pub why : r.why ≡ o.why
  pub written : r.written ≡ length o.words
  pub out : after ≡ o.words ++ drop (length o.words) before

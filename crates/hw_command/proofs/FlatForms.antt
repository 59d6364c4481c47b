-- Commands that begin with a flat text.
use Rattle.std.proofs.Common.{◌≡◌, ◌≤◌, ℕ, List, [], ◌∷◌, length, Option, Some, None, Result, Ok, Err, refl, sym, subst}
use Rattle.std.specs.Prelude.{IfSome, Vec}
use Rattle.std.specs.declared.alloc.Global.{Global}
use Rattle.hw_desk.specs.State.{DeskState}
use Rattle.hw_desk.specs.declared.desk.Feed.TheVariants.{Flat}
use Rattle.hw_desk.specs.declared.whole.ReadStop.{ReadStop}
use Rattle.hw_model.specs.Limits.{IsFlat}
use Rattle.hw_model.specs.Problem.{Problem}
use Rattle.hw_flat.proofs.TextRows.{text_read}
use Rattle.hw_flat.specs.Text.{Fails, flat_text}
use Rattle.hw_flat.specs.declared.fault.FlatFault.{FlatFault}
use Rattle.hw_flat.specs.declared.fault.FlatFault.TheVariants as faults
use Rattle.hw_flat.specs.declared.fault.FlatWord.{FlatWord}
use Rattle.hw_text.specs.Parts.{parts_of}
use Rattle.hw_report.specs.Reports.{Report, bad_flat, too_long}
use Rattle.hw_command.specs.Inputs.{ReadsInput, IsWholeOf, ReadsFlat, NoFlat, StopsAtFlat, report_of_fault, report_of_stop}
use Rattle.hw_command.specs.Scope.{Entered, named_feed}
use Rattle.hw_command.specs.Values.{most_bytes, IsLong, GivesProblem}
use Rattle.hw_command.proofs.Begun.{entered_none, entered_on, input_stops, refuses, wants_memory}

-- what is true of the bytes that were read is true of those that are told
pub of_whole : (P : List ℕ → Type 0) (told : Option (List ℕ)) (bytes : List ℕ) → IsWholeOf told bytes → P bytes → IfSome told (λ all. (length all ≤ most_bytes) × P all)
of_whole P None bytes whole p = tt
of_whole P (Some all) bytes whole p = subst (λ (xs : List ℕ). (length xs ≤ most_bytes) × P xs) (sym whole.0) (whole.1, p)

-- the flat text was begun
entered : {name : List ℕ} {x y : DeskState} {r : Result (Vec ℕ Global) ReadStop} → ReadsInput Flat name x y r → Entered (named_feed Flat name ∷ []) x y
entered {x = x} h = entered_on [] (entered_none x) h.enters refl

-- the text isn't read to its end
pub no_text_stops : {name : List ℕ} {x y : DeskState} (stop : ReadStop) → ReadsInput Flat name x y (Err stop) → StopsAtFlat name x y (report_of_stop Flat stop)
no_text_stops {name = name} {x = x} stop h = input_stops x [] Flat name [] stop (λ long. long) refl (entered h) tt refl h.answer

-- it has a bad line
pub bad_text_stops : {name : List ℕ} {x y : DeskState} {v : Vec ℕ Global} (fault : FlatFault) → ReadsInput Flat name x y (Ok v) → Fails fault (flat_text v.items) → StopsAtFlat name x y (report_of_fault fault)
bad_text_stops {name = name} {x = x} {v = v} (faults.Line number word) h fails = record {
  works = refuses None [] (named_feed Flat name) [] (bad_flat number word) refl refl (entered h) tt h.answer.1;
  early = λ e. absurd (cc);
  why = λ own. of_whole (λ bytes. flat_text bytes ≡ Err (record { number = number; word = word })) (x.held name) v.items h.answer.0 fails;
}
bad_text_stops {name = name} faults.NoMemory h fails = record {
  works = wants_memory None (named_feed Flat name ∷ []) [] refl (entered h) tt h.answer.1;
  early = λ e. absurd (cc);
  why = λ own. absurd (cc);
}

-- it is that of a problem
pub reads_flat : {name : List ℕ} {x y : DeskState} {v : Vec ℕ Global} {f : Problem} → ReadsInput Flat name x y (Ok v) → flat_text v.items ≡ Ok f → IsFlat f → ReadsFlat name x y f
reads_flat {name = name} {x = x} {v = v} {f = f} h is_text limits = record {
  entered = entered h;
  read_faults = h.answer.1;
  limits = limits;
  writable = (text_read (parts_of 10 v.items) f is_text).writable;
  reads = of_whole (λ bytes. flat_text bytes ≡ Ok f) (x.held name) v.items h.answer.0 is_text;
}

-- the text gives the problem
pub gives_problem : {name : List ℕ} {x y : DeskState} {f : Problem} → ReadsFlat name x y f → GivesProblem (x.held name)
gives_problem {f = f} h = record { problem = f; limits = h.limits; reads = h.reads }

-- what a report says of a text without a problem, by the two that have a cause of their own
pub by_line : (text : Option (List ℕ)) (P : Report → Type 0) (r : Report) → ((number : ℕ) (word : FlatWord) → NoFlat text (bad_flat number word) → P (bad_flat number word)) → (IfSome text IsLong → P (too_long Flat)) → NoFlat text r → P r
by_line text P (bad_flat number word) line long h = line number word h
by_line text P (too_long Flat) line long h = long h
by_line text P r line long h = absurd h

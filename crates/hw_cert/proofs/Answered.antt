-- What a reader answers, by what it took.
use Rattle.std.proofs.Common.{◌≡◌, ◌≤◌, ◌+◌, ◌^◌, ◌||◌, nat_lt, ℕ, Bool, true, false, List, ◌++◌, length, Option, Some, None, Result, Ok, Err, IsErrOf, refl, sym, ap, ◌∙◌, subst, arith, length-append}
use Rattle.std.proofs.lemmas.Bool.{ltb-false}
use Rattle.std.specs.Prelude.{IfSome, IfOk, IsSome, IsSomeAnd, is_some, is_none, if◌then◌else◌}
use Rattle.std.specs.Io.KnownBytes.{prepend_known}
use Rattle.hw_desk.specs.State.{DeskState}
use Rattle.hw_desk.specs.Calls.{Moves}
use Rattle.hw_desk.specs.declared.desk.Feed.{Feed}
use Rattle.hw_desk.proofs.Chain.{moves_on, rose_on}
use Rattle.hw_model.specs.Problem.{Problem, shape_of}
use Rattle.hw_text.specs.Parts.{parts_of}
use Rattle.hw_cert.specs.Fits.{line_read}
use Rattle.hw_cert.specs.Spelled.{is_within, version_to}
use Rattle.hw_cert.specs.Laws.{has_form}
use Rattle.hw_cert.specs.Stream.{Cut, whole, long, line_passes_limit, cut_of, NextLine, bad, too_long, line_next, header_next, header_by, next_by, line_by, past_line}
use Rattle.hw_cert.specs.Reader.{ReaderModel, ReaderKeeps}
use Rattle.hw_cert.specs.Taking.{TakesLine}
use Rattle.hw_cert.specs.Nexts.{rest_of, next_line, StopsAs, Answers, GoesOn, TakesNextLine, TakesHeader}
use Rattle.hw_cert_lines.specs.Valid.{LineFits}
use Rattle.hw_cert_lines.specs.declared.line.Line.{Line}
use Rattle.hw_cert.specs.declared.reader.Next.{Next}
use Rattle.hw_cert.specs.declared.reader.Next.TheVariants as nexts
use Rattle.hw_cert.specs.declared.stop.FormWord.{FormWord}
use Rattle.hw_cert.specs.declared.stop.FormWord.TheVariants.{Header, Form}
use Rattle.hw_cert.specs.declared.stop.LineStop.{LineStop}
use Rattle.hw_cert.specs.declared.stop.LineStop.TheVariants as stops
use Rattle.hw_cert.specs.declared.taking.TakenLine.{TakenLine}
use Rattle.hw_cert.specs.declared.taking.TakenLine.TheVariants.{Whole, Unended, Nothing}
use Rattle.hw_cert.specs.declared.version.Version.{Version}
use Rattle.hw_cert.proofs.Cuts.{CutIs, told_cut, whole_sizes}

pub told_map : {P Q : List ℕ → Type 0} (o : Option (List ℕ)) → ((x : List ℕ) → P x → Q x) → IfSome o P → IfSome o Q
told_map None f h = tt
told_map (Some x) f h = f x h

pub some_map : {P Q : List ℕ → Type 0} (o : Option (List ℕ)) → ((x : List ℕ) → P x → Q x) → IsSomeAnd o P → IsSomeAnd o Q
some_map None f h = h
some_map (Some x) f h = f x h

-- the same refusal of another call
err_same : {A B : Type 0} (stop fault : LineStop) → IsErrOf {T = A} (Err stop) fault → IsErrOf {T = B} (Err stop) fault
err_same stop fault e = let same : stop ≡ fault = inner stop fault e in ap (λ (s : LineStop). Err s) same
  where
    inner : {A : Type 0} (a b : LineStop) → IsErrOf {T = A} (Err a) b → a ≡ b
    inner a b e = cc

-- before the header
at_header : (r : ReaderModel) (rest : List ℕ) → r.at.version ≡ None → next_line r rest ≡ header_next r.shape r.at.most r.at.number r.at.taken (cut_of r.at.taken (parts_of 10 rest))
at_header r rest e = ap (λ (v : Option Version). next_by r.shape r.at.most r.at.number r.at.taken v (parts_of 10 rest)) e

-- after it
at_line : (r : ReaderModel) (version : Version) (rest : List ℕ) → r.at.version ≡ Some version → next_line r rest ≡ line_next r.shape r.at.most version r.at.number r.at.taken (cut_of r.at.taken (parts_of 10 rest))
at_line r version rest e = ap (λ (v : Option Version). next_by r.shape r.at.most r.at.number r.at.taken v (parts_of 10 rest)) e

-- a stop while a line's bytes were taken, whatever line it was
stop_as : (next : Cut → NextLine) (cut : Cut) (taken : ℕ) (rest line : List ℕ) (left : Option (List ℕ)) (stop : LineStop) → next long ≡ too_long → cut ≡ cut_of taken (parts_of 10 rest) → CutIs taken rest line left (Err stop) → StopsAs (next cut) stop
stop_as next cut taken rest line left (stops.Form number word) l e c = absurd c
stop_as next cut taken rest line left stops.Fault l e c = tt
stop_as next cut taken rest line left stops.TooLong l e c = ap next (e ∙ c) ∙ l
stop_as next cut taken rest line left stops.NoMemory l e c = tt

stops_same : (a b : NextLine) (stop : LineStop) → a ≡ b → StopsAs b stop → StopsAs a stop
stops_same a b stop e h = subst (λ (n : NextLine). StopsAs n stop) (sym e) h

-- ---- the header

pub header_stopped : {line pending : List ℕ} {x y : DeskState} (r : ReaderModel) (stop : LineStop) → r.at.version ≡ None → r.at.taken ≤ 2 ^ 40 → TakesLine r.feed r.at.taken r.pending pending line x y (Err stop) → TakesHeader r x y (Err stop)
header_stopped {line = line} {pending = pending} {x = x} {y = y} r stop none le h = record {
  moved = (h.moved.0, h.moved.1, h.moved.2, told_map (rest_of r x) (λ rest c. stops_same _ _ stop (at_header r rest none) (stop_as (header_next r.shape r.at.most r.at.number r.at.taken) (cut_of r.at.taken (parts_of 10 rest)) r.at.taken rest line (prepend_known pending (y.feeds r.feed).left) stop refl refl c)) (told_cut h le));
  fault = λ e. h.fault (err_same stop stops.Fault e);
  kept = λ none. h.kept (λ e. none (err_same stop stops.Fault e));
}

-- no line is there, or one without its end
pub header_missing : {line pending : List ℕ} {x y : DeskState} (r : ReaderModel) (t : TakenLine) → r.at.version ≡ None → r.at.taken ≤ 2 ^ 40 → (t ≡ Whole → ⊥) → TakesLine r.feed r.at.taken r.pending pending line x y (Ok t) → TakesHeader r x y (Err (stops.Form r.at.number Header))
header_missing {line = line} {pending = pending} {x = x} {y = y} r t none le other h = record {
  moved = (h.moved.0, h.moved.1, h.moved.2, told_map (rest_of r x) (λ rest c. at_header r rest none ∙ by_taken t rest other c) (told_cut h le));
  fault = λ e. absurd (cc);
  kept = λ none. h.kept (λ e. absurd (cc));
}
  where
    by_taken : (u : TakenLine) (rest : List ℕ) → (u ≡ Whole → ⊥) → CutIs r.at.taken rest line (prepend_known pending (y.feeds r.feed).left) (Ok u) → header_next r.shape r.at.most r.at.number r.at.taken (cut_of r.at.taken (parts_of 10 rest)) ≡ bad r.at.number Header
    by_taken Whole rest other c = absurd (other refl)
    by_taken Unended rest other c = ap (header_next r.shape r.at.most r.at.number r.at.taken) c
    by_taken Nothing rest other c = ap (header_next r.shape r.at.most r.at.number r.at.taken) c

-- the line names no version
pub header_wrong : {line pending : List ℕ} {x y : DeskState} (r : ReaderModel) → r.at.version ≡ None → r.at.taken ≤ 2 ^ 40 → version_to r.at.most line ≡ None → TakesLine r.feed r.at.taken r.pending pending line x y (Ok Whole) → TakesHeader r x y (Err (stops.Form r.at.number Header))
header_wrong {line = line} {pending = pending} {x = x} {y = y} r none le unnamed h = record {
  moved = (h.moved.0, h.moved.1, h.moved.2, told_map (rest_of r x) (λ rest c. at_header r rest none ∙ wrong rest (prepend_known pending (y.feeds r.feed).left) c) (told_cut h le));
  fault = λ e. absurd (cc);
  kept = λ none. h.kept (λ e. absurd (cc));
}
  where
    wrong : (rest : List ℕ) (left : Option (List ℕ)) → IsSomeAnd left (λ more. cut_of r.at.taken (parts_of 10 rest) ≡ whole line (parts_of 10 more)) → header_next r.shape r.at.most r.at.number r.at.taken (cut_of r.at.taken (parts_of 10 rest)) ≡ bad r.at.number Header
    wrong rest None c = absurd c
    wrong rest (Some more) c = ap (header_next r.shape r.at.most r.at.number r.at.taken) c ∙ ap (header_by r.shape r.at.most r.at.number r.at.taken line (parts_of 10 more)) unnamed

-- after a header
abbrev pub past_header : ReaderModel → Version → List ℕ → List ℕ → ReaderModel
past_header r version line pending = record { shape = r.shape; feed = r.feed; at = past_line r.at.most version r.at.number r.at.taken line; pending = pending }

pub header_taken : {line pending : List ℕ} {x y : DeskState} (r : ReaderModel) (version : Version) → r.at.version ≡ None → r.at.taken ≤ 2 ^ 40 → version_to r.at.most line ≡ Some version → TakesLine r.feed r.at.taken r.pending pending line x y (Ok Whole) → TakesHeader r x y (Ok (past_header r version line pending))
header_taken {line = line} {pending = pending} {x = x} {y = y} r version none le named h = record {
  moved = (
    h.moved.0,
    h.moved.1,
    h.moved.2,
    record {
      shape = refl;
      feed = refl;
      most = refl;
      version = refl;
      number = refl;
      later = omega arith;
      room = whole_sizes h;
      next = told_map (rest_of r x) (λ rest c. some_map (prepend_known pending (y.feeds r.feed).left) (λ more cut.
          at_header r rest none ∙ (ap (header_next r.shape r.at.most r.at.number r.at.taken) cut ∙ ap (header_by r.shape r.at.most r.at.number r.at.taken line (parts_of 10 more)) named)) c) (told_cut h le);
    },
  );
  fault = λ e. absurd (cc);
  kept = λ none. h.kept (λ e. absurd (cc));
}

found_both : {P Q : List ℕ → Type 0} (o : Option (List ℕ)) → IsSomeAnd o P → IfSome o Q → (x : List ℕ) × P x × Q x
found_both None p q = absurd p
found_both (Some x) p q = (x, p, q)

-- the line after the header
pub header_then_line : {x y z : DeskState} (r reader : ReaderModel) (result : Result Next LineStop) → r.at.version ≡ None → TakesHeader r x y (Ok reader) → TakesNextLine reader y z result → TakesNextLine r x z result
header_then_line {x = x} {y = y} {z = z} r reader result none h t =
    let b = h.moved.3 in
    let second : Moves r.feed t.moved.0 y z = subst (λ (f : Feed). Moves f t.moved.0 y z) b.feed t.moved.1 in
    record {
      moved = (h.moved.0 ++ t.moved.0, moves_on h.moved.1 second (h.moved.0 ++ t.moved.0) refl, omega (arith, b.room, t.moved.2, length-append h.moved.0 t.moved.0));
      next = told_map (rest_of r x) (λ rest c. let both = found_both (rest_of reader y) c t.next in subst (λ (n : NextLine). Answers n z result) (sym both.1) both.2) b.next;
      line = one_more result t.line;
      fault = λ e. rose_on h.moved.1.only.later (t.fault e);
      kept = λ none. t.kept none ∙ h.kept (λ e. absurd (cc));
    }
  where
    by_version : (v : Option Version) (n : ℕ) → IsSome v → n + (if is_none v then 2 else 1) ≡ n + 1
    by_version None n s = absurd (cc)
    by_version (Some version) n s = refl

    goes_on : (n : Next) → GoesOn reader n → GoesOn r n
    goes_on (nexts.Line later line) g =
        let b = h.moved.3 in
        record {
          shape = g.shape ∙ b.shape;
          feed = g.feed ∙ b.feed;
          most = g.most ∙ b.most;
          version = g.version;
          number = g.number ∙ by_version reader.at.version reader.at.number b.version ∙ ap (λ (n : ℕ). n + 1) b.number ∙ two (r.at.number) ∙ ap (λ (v : Option Version). r.at.number + (if is_none v then 2 else 1)) (sym none);
          taken = omega (arith, g.taken, b.later);
          limit = g.limit;
          fits = λ f e. g.fits f (e ∙ sym b.shape);
          formed = subst (λ (v : Version). has_form v line ≡ true) b.most g.formed;
        }
      where
        two : (n : ℕ) → n + 1 + 1 ≡ n + 2
        two n = omega arith
    goes_on nexts.End g = tt

    one_more : (o : Result Next LineStop) → IfOk o (λ n. GoesOn reader n) → IfOk o (λ n. GoesOn r n)
    one_more (Ok n) g = goes_on n g
    one_more (Err e) g = tt

-- ---- a line

pub line_stopped : {line pending : List ℕ} {x y : DeskState} (r : ReaderModel) (version : Version) (stop : LineStop) → r.at.version ≡ Some version → r.at.taken ≤ 2 ^ 40 → TakesLine r.feed r.at.taken r.pending pending line x y (Err stop) → TakesNextLine r x y (Err stop)
line_stopped {line = line} {pending = pending} {x = x} {y = y} r version stop named le h = record {
  moved = (h.moved.0, h.moved.1, h.moved.2);
  next = told_map (rest_of r x) (λ rest c. stops_same _ _ stop (at_line r version rest named) (stop_as (line_next r.shape r.at.most version r.at.number r.at.taken) (cut_of r.at.taken (parts_of 10 rest)) r.at.taken rest line (prepend_known pending (y.feeds r.feed).left) stop refl refl c)) (told_cut h le);
  line = tt;
  fault = λ e. h.fault (err_same stop stops.Fault e);
  kept = λ none. h.kept (λ e. none (err_same stop stops.Fault e));
}

pub line_unended : {line pending : List ℕ} {x y : DeskState} (r : ReaderModel) (version : Version) → r.at.version ≡ Some version → r.at.taken ≤ 2 ^ 40 → TakesLine r.feed r.at.taken r.pending pending line x y (Ok Unended) → TakesNextLine r x y (Err (stops.Form r.at.number Form))
line_unended {line = line} {pending = pending} {x = x} {y = y} r version named le h = record {
  moved = (h.moved.0, h.moved.1, h.moved.2);
  next = told_map (rest_of r x) (λ rest c. at_line r version rest named ∙ ap (line_next r.shape r.at.most version r.at.number r.at.taken) c) (told_cut h le);
  line = tt;
  fault = λ e. absurd (cc);
  kept = λ none. h.kept (λ e. absurd (cc));
}

-- what the bytes of a line read as, and what is left after it
read_as : (line : List ℕ) (r : ReaderModel) (version : Version) (rest : List ℕ) (left : Option (List ℕ)) → r.at.version ≡ Some version → IsSomeAnd left (λ more. cut_of r.at.taken (parts_of 10 rest) ≡ whole line (parts_of 10 more))
    → IsSomeAnd left (λ more. next_line r rest ≡ line_by r.at.number (past_line r.at.most version r.at.number r.at.taken line) (parts_of 10 more) (line_read r.shape version line))
read_as line r version rest left named c = some_map left (λ more cut. at_line r version rest named ∙ ap (line_next r.shape r.at.most version r.at.number r.at.taken) cut) c

pub line_bad : {line pending : List ℕ} {x y : DeskState} (r : ReaderModel) (version : Version) (word : FormWord) → r.at.version ≡ Some version → r.at.taken ≤ 2 ^ 40 → line_read r.shape version line ≡ Err word → TakesLine r.feed r.at.taken r.pending pending line x y (Ok Whole) → TakesNextLine r x y (Err (stops.Form r.at.number word))
line_bad {line = line} {pending = pending} {x = x} {y = y} r version word named le wrong h = record {
  moved = (h.moved.0, h.moved.1, h.moved.2);
  next = told_map (rest_of r x) (λ rest c. is_bad rest (prepend_known pending (y.feeds r.feed).left) (read_as line r version rest _ named c)) (told_cut h le);
  line = tt;
  fault = λ e. absurd (cc);
  kept = λ none. h.kept (λ e. absurd (cc));
}
  where
    is_bad : (rest : List ℕ) (left : Option (List ℕ)) → IsSomeAnd left (λ more. next_line r rest ≡ line_by r.at.number (past_line r.at.most version r.at.number r.at.taken line) (parts_of 10 more) (line_read r.shape version line)) → next_line r rest ≡ bad r.at.number word
    is_bad rest None c = absurd c
    is_bad rest (Some more) c = c ∙ ap (line_by r.at.number (past_line r.at.most version r.at.number r.at.taken line) (parts_of 10 more)) wrong

within : (taken size : ℕ) → line_passes_limit taken size 1 ≡ false → taken + size + 1 ≤ 2 ^ 40
within taken size h = both_off (nat_lt (2 ^ 20) size) (nat_lt (2 ^ 40) (taken + size + 1)) h (λ k. omega (arith, ltb-false (2 ^ 40) (taken + size + 1) k))
  where
    both_off : {P : Type 0} (a b : Bool) → (a || b) ≡ false → (b ≡ false → P) → P
    both_off true b p f = absurd cc
    both_off false b p f = f p

pub whole_within : {f : Feed} {taken : ℕ} {before pending line : List ℕ} {x y : DeskState} → TakesLine f taken before pending line x y (Ok Whole) → taken + length line + 1 ≤ 2 ^ 40
whole_within {taken = taken} {line = line} h = within taken (length line) h.moved.3.limit

pub line_taken : {line pending : List ℕ} {x y : DeskState} (r : ReaderModel) (version : Version) (l : Line) → r.at.version ≡ Some version → r.at.taken ≤ 2 ^ 40 → line_read r.shape version line ≡ Ok l
    → ((f : Problem) → shape_of f ≡ r.shape → LineFits f l) → has_form r.at.most l ≡ true → TakesLine r.feed r.at.taken r.pending pending line x y (Ok Whole) → TakesNextLine r x y (Ok (nexts.Line (past_header r version line pending) l))
line_taken {line = line} {pending = pending} {x = x} {y = y} r version l named le is fits formed h = record {
  moved = (h.moved.0, h.moved.1, h.moved.2);
  next = told_map (rest_of r x) (λ rest c. some_map (prepend_known pending (y.feeds r.feed).left) (λ more e. e ∙ ap (line_by r.at.number (past_line r.at.most version r.at.number r.at.taken line) (parts_of 10 more)) is) (read_as line r version rest _ named c)) (told_cut h le);
  line = record {
    shape = refl;
    feed = refl;
    most = refl;
    version = refl;
    number = ap (λ (v : Option Version). r.at.number + (if is_none v then 2 else 1)) (sym named);
    taken = omega arith;
    limit = whole_within h;
    fits = fits;
    formed = formed;
  };
  fault = λ e. absurd (cc);
  kept = λ none. h.kept (λ e. absurd (cc));
}

-- what every reader keeps, after a whole line
pub keeps_on : {line pending : List ℕ} {x y : DeskState} (r : ReaderModel) (version : Version) → ReaderKeeps r → is_within r.at.most version ≡ true → TakesLine r.feed r.at.taken r.pending pending line x y (Ok Whole) → ReaderKeeps (past_header r version line pending)
keeps_on {line = line} {pending = pending} r version k within_most h = record {
  few_ships = k.few_ships;
  named = within_most;
  few_lines = omega (arith, k.few_lines);
  short = whole_within h;
  read = omega (arith, whole_sizes h, h.moved.2);
}

none_of : (v : Option Version) → is_some v ≡ false → v ≡ None
none_of None h = refl
none_of (Some version) h = absurd cc

-- before the header, by a test
pub before_header : (r : ReaderModel) (v : Option Version) (b : Bool) → v ≡ r.at.version → b ≡ is_some v → b ≡ false → r.at.version ≡ None
before_header r v b same test is_no = sym same ∙ none_of v (sym test ∙ is_no)

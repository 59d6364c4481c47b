-- Inputs that were begun, one after another, and the work that ends at one of them.
use Rattle.std.proofs.Common.{◌≡◌, ◌==◌, ◌||◌, ◌++◌, ◌∙◌, ℕ, Bool, true, false, cond, List, [], ◌∷◌, Option, Some, None, append-nil, inl, refl, sym, ap, subst, arith}
use Rattle.std.specs.Prelude.{IfSome, IsSomeAnd}
use Rattle.hw_desk.specs.Calls.{OnlyFeed, OnlyTray}
use Rattle.hw_desk.specs.State.{DeskState, FeedState, feed_place, same_feed, Rose}
use Rattle.hw_desk.specs.declared.desk.Feed.{Feed}
use Rattle.hw_desk.specs.declared.desk.Tray.{Tray}
use Rattle.hw_desk.specs.declared.whole.ReadStop.{ReadStop}
use Rattle.hw_desk.specs.declared.whole.ReadStop.TheVariants as stops
use Rattle.hw_report.specs.Reports.{Report, read_fault, too_long, no_memory}
use Rattle.hw_command.specs.Inputs.{Enters, StopsFor, report_of_stop}
use Rattle.hw_command.specs.Scope.{Named, named_feed, feed_is_among, last_of, IsBegun, AllBegun, GiveBefore, BeginsAll, Entered}
use Rattle.hw_command.specs.Values.{IsLong}
use Rattle.hw_command.specs.Works.{Speaks, of_answer, of_input, of_memory, speaks, UpTo, TraysOf, ReadCauseOf, Works, StopsReading}

not_first : (a b : Bool) → (a || b) ≡ false → a ≡ false
not_first true b e = absurd (cc)
not_first false b e = refl

not_second : (a b : Bool) → (a || b) ≡ false → b ≡ false
not_second true b e = absurd (cc)
not_second false b e = e

same_back : (m n : ℕ) → (m == n) ≡ false → (n == m) ≡ false
same_back m n e = grind arith

-- a feed other than the one that was entered is as before
other_kept : {feed : Feed} {x y : DeskState} (f : Feed) → OnlyFeed feed x y → same_feed f feed ≡ false → y.feeds f ≡ x.feeds f
other_kept {feed = feed} {x = x} {y = y} f h e = ap (λ feeds. feeds f) h.feeds ∙ ap (λ b. cond b (y.feeds feed) (x.feeds f)) e

begun_kept : {feed : Feed} {x y : DeskState} (input : Named) → OnlyFeed feed x y → same_feed feed input.feed ≡ false → IsBegun x input → IsBegun y input
begun_kept {feed = feed} {x = x} {y = y} input h e b =
    let same : y.feeds input.feed ≡ x.feeds input.feed = other_kept input.feed h (same_back (feed_place feed) (feed_place input.feed) e) in
    record {
      begun = ap (λ (s : FeedState). s.begun) same ∙ b.begun;
      named = subst (λ (s : FeedState). IfSome s.name (λ n. n ≡ input.name)) (sym same) b.named;
    }

all_kept : {feed : Feed} {x y : DeskState} (done : List Named) → OnlyFeed feed x y → feed_is_among done feed ≡ false → AllBegun x done → AllBegun y done
all_kept [] h e b = tt
all_kept {feed = feed} (input ∷ more) h e b = (begun_kept input h (not_first (same_feed feed input.feed) (feed_is_among more feed) e) b.0, all_kept more h (not_second (same_feed feed input.feed) (feed_is_among more feed) e) b.1)

all_more : {y : DeskState} (done : List Named) (last : Named) → AllBegun y done → IsBegun y last → AllBegun y (done ++ last ∷ [])
all_more [] last b l = (l, tt)
all_more (input ∷ more) last b l = (b.0, all_more more last b.1 l)

among_front : (done : List Named) (last : Named) (f : Feed) → feed_is_among (done ++ last ∷ []) f ≡ false → feed_is_among done f ≡ false
among_front [] last f e = refl
among_front (input ∷ more) last f e = neither (same_feed f input.feed) (feed_is_among (more ++ last ∷ []) f) (feed_is_among more f) e (among_front more last f)
  where
    neither : (a b c : Bool) → (a || b) ≡ false → (b ≡ false → c ≡ false) → (a || c) ≡ false
    neither true b c e h = absurd (cc)
    neither false b c e h = h e

among_last : (done : List Named) (last : Named) (f : Feed) → feed_is_among (done ++ last ∷ []) f ≡ false → same_feed f last.feed ≡ false
among_last [] last f e = not_first (same_feed f last.feed) false e
among_last (input ∷ more) last f e = among_last more last f (not_second (same_feed f input.feed) (feed_is_among (more ++ last ∷ []) f) e)

pub entered_none : (x : DeskState) → Entered [] x x
entered_none x = record { begins = record { held = refl; begun = tt; others = λ f e. refl }; trays = refl; write_faults = refl }

-- one input more
pub entered_on : {feed : Feed} {name : List ℕ} {x y z : DeskState} (done : List Named) → Entered done x y → Enters feed name y z → feed_is_among done feed ≡ false → Entered (done ++ named_feed feed name ∷ []) x z
entered_on {feed = feed} {name = name} {x = x} {y = y} {z = z} done h k e = record {
  begins = record {
    held = k.only.held ∙ h.begins.held;
    begun = all_more done (named_feed feed name) (all_kept done k.only e h.begins.begun) (record { begun = k.begun; named = k.named });
    others = λ f out. other_kept f k.only (among_last done (named_feed feed name) f out) ∙ h.begins.others f (among_front done (named_feed feed name) f out);
  };
  trays = k.only.trays ∙ h.trays;
  write_faults = k.only.write_faults ∙ h.write_faults;
}

-- what was begun stays so while no feed is touched
still_begun : (y z : DeskState) (done : List Named) → z.feeds ≡ y.feeds → AllBegun y done → AllBegun z done
still_begun y z [] e b = tt
still_begun y z (input ∷ more) e b = (
  record {
    begun = ap (λ feeds. (feeds input.feed).begun) e ∙ b.0.begun;
    named = subst (λ (s : FeedState). IfSome s.name (λ n. n ≡ input.name)) (sym (ap (λ feeds. feeds input.feed) e)) b.0.named;
  },
  still_begun y z more e b.1,
)

pub begun_past : {t : Tray} {inputs : List Named} {x y z : DeskState} → OnlyTray t y z → BeginsAll inputs x y → BeginsAll inputs x z
begun_past {inputs = inputs} {y = y} {z = z} h b = record {
  held = h.held ∙ b.held;
  begun = still_begun y z inputs h.feeds b.begun;
  others = λ f out. ap (λ feeds. feeds f) h.feeds ∙ b.others f out;
}

pub last_is : (done : List Named) (last : Named) → last_of (done ++ last ∷ []) ≡ Some last
last_is [] last = refl
last_is (input ∷ []) last = refl
last_is (input ∷ next ∷ more) last = last_is (next ∷ more) last

pub some_is : (P : Named → Type 0) (o : Option Named) (x : Named) → o ≡ Some x → P x → IsSomeAnd o P
some_is P o x e p = subst (λ (v : Option Named). IsSomeAnd v P) (sym e) p

no_tray : (x y : DeskState) (proof : Option (List ℕ)) (s : Speaks) → y.trays ≡ x.trays → TraysOf proof x y s
no_tray x y None of_answer e = e
no_tray x y (Some name) of_answer e = inl e
no_tray x y proof (of_input feed) e = e
no_tray x y proof of_memory e = e

-- the same values in the words of another command
pub gives_on : {G H : Feed → Type 0} (done : List Named) → ((feed : Feed) → G feed → H feed) → GiveBefore G done → GiveBefore H done
gives_on [] same give = tt
gives_on (last ∷ []) same give = tt
gives_on (input ∷ next ∷ more) same give = (same input.feed give.0, gives_on (next ∷ more) same give.1)

-- the work that ends before an answer
pub answers : {inputs : List Named} {Gives : Feed → Type 0} {x y : DeskState} (proof : Option (List ℕ)) (r : Report) → speaks r ≡ of_answer → Entered inputs x y → GiveBefore Gives inputs → ReadCauseOf x y r → Works inputs Gives proof x y r
answers {inputs = inputs} {x = x} {y = y} proof r e h give read = record {
  done = inputs;
  rest = [];
  parts = sym (append-nil inputs);
  begins = h.begins;
  give = give;
  upto = subst (λ (s : Speaks). UpTo inputs [] s) (sym e) refl;
  trays = no_tray x y proof (speaks r) h.trays;
  read_cause = read;
  write_faults = h.write_faults;
}

-- the work that ends at the input that was begun last
pub refuses : {inputs : List Named} {Gives : Feed → Type 0} {x y : DeskState} (proof : Option (List ℕ)) (done : List Named) (last : Named) (rest : List Named) (r : Report) → inputs ≡ (done ++ last ∷ []) ++ rest → speaks r ≡ of_input last.feed → Entered (done ++ last ∷ []) x y → GiveBefore Gives (done ++ last ∷ []) → ReadCauseOf x y r → Works inputs Gives proof x y r
refuses {x = x} {y = y} proof done last rest r parts e h give read = record {
  done = done ++ last ∷ [];
  rest = rest;
  parts = parts;
  begins = h.begins;
  give = give;
  upto = subst (λ (s : Speaks). UpTo (done ++ last ∷ []) rest s) (sym e) (some_is _ (last_of (done ++ last ∷ [])) last (last_is done last) refl);
  trays = no_tray x y proof (speaks r) h.trays;
  read_cause = read;
  write_faults = h.write_faults;
}

-- the work that ends out of memory
pub wants_memory : {inputs : List Named} {Gives : Feed → Type 0} {x y : DeskState} (proof : Option (List ℕ)) (done rest : List Named) → inputs ≡ done ++ rest → Entered done x y → GiveBefore Gives done → y.read_faults ≡ x.read_faults → Works inputs Gives proof x y no_memory
wants_memory {x = x} {y = y} proof done rest parts h give read = record {
  done = done;
  rest = rest;
  parts = parts;
  begins = h.begins;
  give = give;
  upto = tt;
  trays = h.trays;
  read_cause = read;
  write_faults = h.write_faults;
}

pub rose_on : {a b c : ℕ} → b ≡ a → Rose b c → Rose a c
rose_on e h = omega arith

-- an input that isn't read to its end
pub input_stops : {inputs : List Named} {Gives : Feed → Type 0} {Why : Report → Type 0} {x z : DeskState} (y : DeskState) (done : List Named) (feed : Feed) (name : List ℕ) (rest : List Named) (stop : ReadStop) → (IfSome (x.held name) IsLong → Why (too_long feed)) → inputs ≡ (done ++ named_feed feed name ∷ []) ++ rest → Entered (done ++ named_feed feed name ∷ []) x z → GiveBefore Gives (done ++ named_feed feed name ∷ []) → y.read_faults ≡ x.read_faults → StopsFor (x.held name) y z stop → StopsReading inputs Gives Why x z (report_of_stop feed stop)
input_stops y done feed name rest stops.Fault long parts h give before s = record {
  works = refuses None done (named_feed feed name) rest (read_fault feed) parts refl h give (rose_on before s);
  early = λ e. absurd (cc);
  why = λ own. absurd (cc);
}
input_stops y done feed name rest stops.TooLong long parts h give before s = record {
  works = refuses None done (named_feed feed name) rest (too_long feed) parts refl h give (s.1 ∙ before);
  early = λ e. absurd (cc);
  why = λ own. long s.0;
}
input_stops y done feed name rest stops.NoMemory long parts h give before s = record {
  works = wants_memory None (done ++ named_feed feed name ∷ []) rest parts h give (s ∙ before);
  early = λ e. absurd (cc);
  why = λ own. absurd (cc);
}

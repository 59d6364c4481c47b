-- A clash text that is read, and the work that ends at it.
use Rattle.std.proofs.Common.{◌≡◌, ◌⊎◌, ◌++◌, ◌∙◌, ℕ, false, List, [], ◌∷◌, Option, Some, None, Ok, Err, append-nil, inl, inr, refl, sym, ap, subst}
use Rattle.std.specs.Prelude.{IfSome, Vec}
use Rattle.std.specs.declared.alloc.Global.{Global}
use Rattle.hw_model.specs.Limits.{IsFlat}
use Rattle.hw_model.specs.Problem.{Problem}
use Rattle.hw_desk.specs.State.{DeskState}
use Rattle.hw_desk.specs.declared.desk.Feed.{Feed}
use Rattle.hw_desk.specs.declared.desk.Feed.TheVariants as feeds
use Rattle.hw_desk.specs.declared.whole.ReadStop.{ReadStop}
use Rattle.hw_desk.specs.declared.whole.ReadStop.TheVariants as stops
use Rattle.hw_plan_texts.specs.Reading.{TextReadFails}
use Rattle.hw_plan_texts.specs.declared.fault.LineFault.{LineFault}
use Rattle.hw_plan_texts.specs.declared.fault.LineFault.TheVariants as faults
use Rattle.hw_clash.specs.declared.fault.ClashWord.{ClashWord}
use Rattle.hw_clash.specs.Clashes.{Clash}
use Rattle.hw_clash.specs.Parts.{part}
use Rattle.hw_clash.specs.Read.{SaysClash}
use Rattle.hw_clash.specs.Text.{clash_text}
use Rattle.hw_clash.specs.Wished.{Wished}
use Rattle.hw_clash.specs.Words.{clash_word_text}
use Rattle.hw_report.specs.Reports.{Report, bad_text, too_long, no_memory}
use Rattle.hw_command.specs.Inputs.{ReadsInput, report_of_stop}
use Rattle.hw_command.specs.Scope.{Named, named_feed, feed_is_among, GiveBefore, Entered}
use Rattle.hw_command.specs.Values.{IsLong}
use Rattle.hw_command.specs.Works.{StopsReading}
use Rattle.hw_command.proofs.Begun.{entered_on, input_stops, refuses}
use Rattle.hw_command.proofs.FlatForms.{by_line, of_whole}
use Rattle.hw_command.proofs.PortForms.{by_fault}
use Rattle.hw_subject.specs.Subjects.{Subject, Origin, Topic, flat_text, port_of, flat_subject, port_subject, repair_of, topic_subject, repaired_by, origin_subject, LongText}
use Rattle.hw_command_clash.specs.CheckClash.{BadClash, ClashChecks, ClashGives, GivesClash}
use Rattle.hw_command_clash.specs.Inputs.{IsBadClash, ReadsPart, StopsAtPart, StopsAtRead, StopsAtLine, clash_feed, feed_by, report_of_clash_fault}

-- ---- the call

-- the text couldn't be read to its end
pub no_text : {feed : Feed} {f : Wished} {name : List ℕ} {x y : DeskState} (stop : ReadStop) → ReadsInput feed name x y (Err stop) → StopsAtPart feed f name x y (report_of_stop feed stop)
no_text stop h = record { enters = h.enters; stop = inl (record { stop = stop; report = refl; cause = h.answer }) }

-- it has a bad line
pub bad_line : {feed : Feed} {f : Wished} {name : List ℕ} {x y : DeskState} {v : Vec ℕ Global} (fault : LineFault ClashWord) → ReadsInput feed name x y (Ok v) → TextReadFails fault (clash_text f v.items) → StopsAtPart feed f name x y (report_of_clash_fault feed fault)
bad_line {f = f} {name = name} {x = x} {v = v} (faults.Line number word) h fails = record {
  enters = h.enters;
  stop = inr (record {
    number = number;
    word = clash_word_text word;
    report = refl;
    bad = record {
      kind = word;
      named = refl;
      reads = of_whole (λ bytes. clash_text f bytes ≡ Err (record { number = number; word = word })) (x.held name) v.items h.answer.0 fails;
    };
    read_faults = h.answer.1;
  });
}
bad_line faults.NoMemory h fails = record { enters = h.enters; stop = inl (record { stop = stops.NoMemory; report = refl; cause = h.answer.1 }) }

-- memory ran out for the part
pub no_room : {feed : Feed} {f : Wished} {name : List ℕ} {x y : DeskState} {v : Vec ℕ Global} → ReadsInput feed name x y (Ok v) → StopsAtPart feed f name x y no_memory
no_room h = record { enters = h.enters; stop = inl (record { stop = stops.NoMemory; report = refl; cause = h.answer.1 }) }

-- the part was made
pub reads_part : {feed : Feed} {f : Wished} {g : Problem} {name : List ℕ} {x y : DeskState} {v : Vec ℕ Global} (clash : Clash) → ReadsInput feed name x y (Ok v) → clash_text f v.items ≡ Ok clash → SaysClash f clash → g ≡ part f clash.kept → IsFlat g → ReadsPart feed f name x y (record { clash = clash; flat = g })
reads_part {f = f} {name = name} {x = x} {v = v} clash h is_text says made limits = record {
  enters = h.enters;
  read_faults = h.answer.1;
  is = record { says = says; reads = of_whole (λ bytes. clash_text f bytes ≡ Ok clash) (x.held name) v.items h.answer.0 is_text };
  made = made;
  limits = limits;
}

-- ---- the work

-- the work that ends at the clash text, where other inputs were read before it
pub part_stops : {before : List Named} {Gives : Feed → Type 0} {feed : Feed} {f : Wished} {name : List ℕ} {x y z : DeskState} {r : Report} (Why : Report → Type 0) → Entered before x y → y.read_faults ≡ x.read_faults → feed_is_among before feed ≡ false → GiveBefore Gives (before ++ named_feed feed name ∷ [])
    → (IfSome (x.held name) IsLong → Why (too_long feed)) → ((number : ℕ) (word : List ℕ) → IsBadClash (x.held name) f number word → Why (bad_text feed number word))
    → StopsAtPart feed f name y z r → StopsReading (before ++ named_feed feed name ∷ []) Gives Why x z r
part_stops {before = before} {Gives = Gives} {feed = feed} {f = f} {name = name} {x = x} {y = y} {z = z} {r = r} Why h read new give long bad k =
    let entered = entered_on before h k.enters new in
    let told = subst (λ (text : Option (List ℕ)). StopsAtRead feed text y z r ⊎ StopsAtLine feed f text y z r) (ap (λ held. held name) h.begins.held) k.stop in
    elim told [
      | inl stop ↦ subst (λ (r : Report). StopsReading (before ++ named_feed feed name ∷ []) Gives Why x z r) (sym stop.report) (input_stops y before feed name [] stop.stop long (sym (append-nil _)) entered give read stop.cause)
      | inr line ↦ subst (λ (r : Report). StopsReading (before ++ named_feed feed name ∷ []) Gives Why x z r) (sym line.report) (record {
        works = refuses None before (named_feed feed name) [] (bad_text feed line.number line.word) (sym (append-nil _)) refl entered give (line.read_faults ∙ read);
        early = λ e. absurd (cc);
        why = λ own. bad line.number line.word line.bad;
      })
    ]

-- ---- of a subject

-- a clash text comes as an input that the subject doesn't begin, and what it gives and refuses stands beside what the subject does
pub record Clashable (s : Subject) : Type 0 where
  pub unread : feed_is_among s.inputs (clash_feed s) ≡ false
  pub certless : (name : List ℕ) → feed_is_among (s.inputs ++ named_feed (clash_feed s) name ∷ []) feeds.Certificate ≡ false
  pub gives : (name : List ℕ) (held : List ℕ → Option (List ℕ)) (feed : Feed) → s.Gives held feed → ClashGives s name held feed
  pub given : (name : List ℕ) (held : List ℕ → Option (List ℕ)) → GivesClash s name held → ClashGives s name held (clash_feed s)
  pub refuses : (name cert : List ℕ) (held : List ℕ → Option (List ℕ)) (r : Report) → s.Refuses held r → ClashChecks s name cert held r
  pub long : (name cert : List ℕ) (held : List ℕ → Option (List ℕ)) → LongText s name held → ClashChecks s name cert held (too_long (clash_feed s))
  pub bad : (name cert : List ℕ) (held : List ℕ → Option (List ℕ)) (number : ℕ) (word : List ℕ) → BadClash s name held number word → ClashChecks s name cert held (bad_text (clash_feed s) number word)
  pub by_plan : (v : s.Value) → clash_feed s ≡ feed_by (s.plan v)

flat_gives : (text name : List ℕ) (held : List ℕ → Option (List ℕ)) (feed : Feed) → (flat_subject text).Gives held feed → ClashGives (flat_subject text) name held feed
flat_gives text name held feeds.Plan given = absurd given
flat_gives text name held feed given = given

flat_refuses : (text name cert : List ℕ) (held : List ℕ → Option (List ℕ)) (r : Report) → (flat_subject text).Refuses held r → ClashChecks (flat_subject text) name cert held r
flat_refuses text name cert held r h = by_line (held text) (ClashChecks (flat_subject text) name cert held) r (λ number word bad. bad) (λ long. long) h

port_gives : (instance table name : List ℕ) (held : List ℕ → Option (List ℕ)) (feed : Feed) → (port_subject instance table).Gives held feed → ClashGives (port_subject instance table) name held feed
port_gives instance table name held feeds.Plan given = absurd given
port_gives instance table name held feed given = given

port_refuses : (instance table name cert : List ℕ) (held : List ℕ → Option (List ℕ)) (r : Report) → (port_subject instance table).Refuses held r → ClashChecks (port_subject instance table) name cert held r
port_refuses instance table name cert held r h = by_fault (held instance) (held table) (ClashChecks (port_subject instance table) name cert held) r (λ bad. bad) (λ fault bad. bad) (λ fault bad. bad) (λ bad. bad) (λ bad. bad) h

-- of a repair
flat_repair_gives : (text plan name : List ℕ) (held : List ℕ → Option (List ℕ)) (feed : Feed) → (repair_of (flat_subject text) plan).Gives held feed → ClashGives (repair_of (flat_subject text) plan) name held feed
flat_repair_gives text plan name held feeds.Clash given = absurd given
flat_repair_gives text plan name held feed given = given

flat_repair_refuses : (text plan name cert : List ℕ) (held : List ℕ → Option (List ℕ)) (r : Report) → (repair_of (flat_subject text) plan).Refuses held r → ClashChecks (repair_of (flat_subject text) plan) name cert held r
flat_repair_refuses text plan name cert held (bad_text feeds.Plan number word) h = h
flat_repair_refuses text plan name cert held (too_long feeds.Plan) h = h
flat_repair_refuses text plan name cert held r h = by_line (held text) (ClashChecks (repair_of (flat_subject text) plan) name cert held) r (λ number word bad. bad) (λ long. long) h

port_repair_gives : (instance table plan name : List ℕ) (held : List ℕ → Option (List ℕ)) (feed : Feed) → (repair_of (port_subject instance table) plan).Gives held feed → ClashGives (repair_of (port_subject instance table) plan) name held feed
port_repair_gives instance table plan name held feeds.Clash given = absurd given
port_repair_gives instance table plan name held feed given = given

port_repair_refuses : (instance table plan name cert : List ℕ) (held : List ℕ → Option (List ℕ)) (r : Report) → (repair_of (port_subject instance table) plan).Refuses held r → ClashChecks (repair_of (port_subject instance table) plan) name cert held r
port_repair_refuses instance table plan name cert held (bad_text feeds.Plan number word) h = h
port_repair_refuses instance table plan name cert held (too_long feeds.Plan) h = h
port_repair_refuses instance table plan name cert held r h = by_fault (held instance) (held table) (ClashChecks (repair_of (port_subject instance table) plan) name cert held) r (λ bad. bad) (λ fault bad. bad) (λ fault bad. bad) (λ bad. bad) (λ bad. bad) h

clashable_by : (a : Origin) (plan : Option (List ℕ)) → Clashable (repaired_by (origin_subject a) plan)
clashable_by (flat_text text) None = record { unread = refl; certless = λ name. refl; gives = flat_gives text; given = λ name held h. h; refuses = flat_refuses text; long = λ name cert held h. h; bad = λ name cert held number word h. h; by_plan = λ v. refl }
clashable_by (flat_text text) (Some plan) = record { unread = refl; certless = λ name. refl; gives = flat_repair_gives text plan; given = λ name held h. h; refuses = flat_repair_refuses text plan; long = λ name cert held h. h; bad = λ name cert held number word h. h; by_plan = λ v. refl }
clashable_by (port_of instance table) None = record { unread = refl; certless = λ name. refl; gives = port_gives instance table; given = λ name held h. h; refuses = port_refuses instance table; long = λ name cert held h. h; bad = λ name cert held number word h. h; by_plan = λ v. refl }
clashable_by (port_of instance table) (Some plan) = record { unread = refl; certless = λ name. refl; gives = port_repair_gives instance table plan; given = λ name held h. h; refuses = port_repair_refuses instance table plan; long = λ name cert held h. h; bad = λ name cert held number word h. h; by_plan = λ v. refl }

pub clashable : (topic : Topic) → Clashable (topic_subject topic)
clashable topic = clashable_by topic.origin topic.plan

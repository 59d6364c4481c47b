-- A clash text of a subject is checked, with its certificate.
use Rattle.std.proofs.Common.{◌≡◌, ◌∙◌, ◌++◌, ℕ, List, [], ◌∷◌, Option, None, Result, Ok, Err, append-nil, append_assoc, false, refl, sym, ap, subst}
use Rattle.std.specs.Prelude.{◌≢◌, IfSome}
use Rattle.hw_model.specs.Limits.{IsFlat}
use Rattle.hw_model.specs.Problem.{Problem, shape_of}
use Rattle.hw_desk.specs.State.{DeskState, FeedState, IsNewDesk}
use Rattle.hw_desk.specs.declared.desk.Feed.{Feed}
use Rattle.hw_desk.specs.declared.desk.Feed.TheVariants.{Certificate}
use Rattle.hw_cert_lines.specs.declared.check.Verdict.TheVariants as verdicts
use Rattle.hw_cert_lines.specs.declared.line.Line.{Line}
use Rattle.hw_cert.specs.declared.version.Version.TheVariants.{Two}
use Rattle.hw_cert.specs.Stream.{cert_stream_to}
use Rattle.hw_clash.specs.Clashes.{Clash}
use Rattle.hw_clash.specs.Parts.{part}
use Rattle.hw_clash.specs.Read.{SaysClash}
use Rattle.hw_clash.specs.Wished.{Wished}
use Rattle.hw_report.specs.Reports.{Report, by_number}
use Rattle.hw_command.specs.Carries.{Carries}
use Rattle.hw_command.specs.Certificates.{cert_outcome, report_of, report_of_check}
use Rattle.hw_command.specs.Checking.{Comes}
use Rattle.hw_command.specs.Ends.{Ends}
use Rattle.hw_command.specs.Readings.{KeepsNone, ReadsLines, ReadsCert, outcome_in}
use Rattle.hw_command.specs.Scope.{Named, named_feed, GiveBefore}
use Rattle.hw_command.specs.Verdicts.{ShownBy}
use Rattle.hw_command.specs.Works.{StopsReading, Works, is_common, of_answer, speaks}
use Rattle.hw_command.specs.declared.cert.ReadCert.{ReadCert}
use Rattle.hw_command.specs.declared.outcome.CertOutcome.{CertOutcome}
use Rattle.hw_command.specs.declared.outcome.CertOutcome.TheVariants.{Shows, Wrong, TooLong}
use Rattle.hw_command.specs.declared.outcome.CertStop.{CertStop}
use Rattle.hw_command.specs.declared.outcome.CertStop.TheVariants.{Fault, NoMemory}
use Rattle.hw_command.specs.declared.status.Status.{Status}
use Rattle.hw_command.proofs.Begun.{entered_on}
use Rattle.hw_command.proofs.CertWorks.{cert_works}
use Rattle.hw_command.proofs.Meanings.{means}
use Rattle.hw_command.proofs.Stops.{further, stops_carries}
use Rattle.hw_subject.specs.Reading.{ReadsSubject, StopsAtSubject, plan_in}
use Rattle.hw_subject.specs.Subjects.{Subject, Topic, topic_subject}
use Rattle.hw_subject.specs.declared.subject.Given.{Given}
use Rattle.hw_subject.proofs.Readings.{all_as, before_last, all_on}
use Rattle.hw_command_clash.specs.Asked.{asked, asked_by}
use Rattle.hw_command_clash.specs.Checked.{ReadsChecked, StopsAtClash}
use Rattle.hw_command_clash.specs.CheckClash.{HoldsWhere, ChecksClash, ClashChecks, ClashGives, GivesClash, check_clash_task}
use Rattle.hw_command_clash.specs.Inputs.{IsClashOf, ReadsPart, StopsAtPart, clash_feed}
use Rattle.hw_command_clash.specs.Texts.{report_of_part}
use Rattle.hw_command_clash.specs.declared.checking.CheckedClash.{CheckedClash}
use Rattle.hw_command_clash.specs.declared.part_input.Part.{Part}
use Rattle.hw_command_clash.proofs.Irreducible.{irreducible}
use Rattle.hw_command_clash.proofs.Inputs.{clashable, part_stops}
use Rattle.hw_command_clash.proofs.Sources.{is_asked, none_of, none_whole}
use Rattle.hw_command_clash.proofs.Worded.{clash_in, drops_in}

-- what is asked of what was read
abbrev asked_in : Given → Wished
asked_in given = asked_by given.flat (plan_in given.repair)

-- ---- an outcome

holds_where : (topic : Topic) (held : List ℕ → Option (List ℕ)) (v : (topic_subject topic).Value) (clash : Clash) (o : CertOutcome) → (topic_subject topic).Reads held v → SaysClash (asked (topic_subject topic) v) clash → ShownBy (part (asked (topic_subject topic) v) clash.kept) o → HoldsWhere (topic_subject topic) v clash o
holds_where topic held v clash (Shows verdicts.Infeasible) reads says shown = (none_of topic held v reads (none_whole (asked (topic_subject topic) v) clash.kept shown.means), irreducible (asked (topic_subject topic) v) clash says shown.means, clash_in topic held v clash reads says shown.means)
holds_where topic held v clash (Shows (verdicts.Optimal c)) reads says shown = tt
holds_where topic held v clash (Shows (verdicts.Unfinished best)) reads says shown = tt
holds_where topic held v clash (Wrong number word hint) reads says shown = tt
holds_where topic held v clash TooLong reads says shown = tt

-- what comes of the bytes that are told
comes : (g : Problem) (lines : List Line) (told : Option (List ℕ)) (o : CertOutcome) → Comes g lines told (cert_outcome g) o → IfSome told (λ bs. o ≡ cert_outcome g bs)
comes g lines told (Shows v) h = h.1
comes g lines told (Wrong number word hint) h = h
comes g lines told TooLong h = h

-- what is shown of the part
shown : {g : Problem} {told : Option (List ℕ)} {read : ReadCert (Unit {0})} (o : CertOutcome) → IsFlat g → (h : ReadsLines Two KeepsNone g told (cert_outcome g) (cert_stream_to Two (shape_of g)) read) → Comes g h.lines told (cert_outcome g) o → ShownBy g o
shown {g = g} (Shows v) flat h e = record { lines = h.lines; fit = h.keeps.fit; valid = h.keeps.valid; verdict = e.0; means = means g h.lines v flat h.keeps.fit h.keeps.valid e.0 }
shown (Wrong number word hint) flat h e = tt
shown TooLong flat h e = tt

pub says : (s : Subject) (name cert : List ℕ) (held : List ℕ → Option (List ℕ)) (o : CertOutcome) → ChecksClash s name cert held o → ClashChecks s name cert held (report_of_part o)
says s name cert held (Shows verdicts.Infeasible) c = c
says s name cert held (Shows (verdicts.Optimal d)) c = (refl, (λ e. absurd (cc)), c)
says s name cert held (Shows (verdicts.Unfinished best)) c = (refl, (λ e. absurd (cc)), c)
says s name cert held (Wrong number word hint) c = c
says s name cert held TooLong c = c

-- ---- the work

give_all : {name : List ℕ} {x y : DeskState} {given : Given} (topic : Topic) (cert : List ℕ) → ReadsSubject (topic_subject topic) x y given → GivesClash (topic_subject topic) name x.held → GiveBefore (ClashGives (topic_subject topic) name x.held) (((topic_subject topic).inputs ++ named_feed (clash_feed (topic_subject topic)) name ∷ []) ++ named_feed Certificate cert ∷ [])
give_all {name = name} {x = x} topic cert h clash =
    let s = topic_subject topic in
    let G = ClashGives s name x.held in
    before_last G (s.inputs ++ named_feed (clash_feed s) name ∷ []) (named_feed Certificate cert) (all_on G s.inputs (named_feed (clash_feed s) name) (all_as (s.Gives x.held) G s.inputs ((clashable topic).gives name x.held) h.give) ((clashable topic).given name x.held clash))

-- the work up to a report of this kind is the work up to that of any check
part_works : {inputs : List Named} {Gives : Feed → Type 0} {x z : DeskState} (o : CertOutcome) → Works inputs Gives None x z (report_of by_number None None o) → Works inputs Gives None x z (report_of_part o)
part_works (Shows verdicts.Infeasible) w = record { done = w.done; rest = w.rest; parts = w.parts; begins = w.begins; give = w.give; upto = w.upto; trays = w.trays; read_cause = w.read_cause; write_faults = w.write_faults }
part_works (Shows (verdicts.Optimal c)) w = w
part_works (Shows (verdicts.Unfinished best)) w = w
part_works (Wrong number word hint) w = w
part_works TooLong w = w

-- the certificate is read
read_works : {name cert : List ℕ} {x y w z : DeskState} {given : Given} {made : Part} (topic : Topic) (result : Result (ReadCert (Unit {0})) CertStop) → ReadsSubject (topic_subject topic) x y given → ReadsPart (clash_feed (topic_subject topic)) (asked_in given) name y w made → GivesClash (topic_subject topic) name x.held → ReadsCert Two KeepsNone made.flat cert w z result → Works (check_clash_task (topic_subject topic) name cert).inputs (ClashGives (topic_subject topic) name x.held) None x z (report_of_check by_number None None (outcome_in result))
read_works {name = name} {cert = cert} {x = x} {z = z} topic result h k clash m =
    let s = topic_subject topic in
    subst (λ (inputs : List Named). Works inputs (ClashGives s name x.held) None x z (report_of_check by_number None None (outcome_in result))) (append_assoc s.inputs (named_feed (clash_feed s) name ∷ []) (named_feed Certificate cert ∷ []))
    (cert_works by_number None None None result (entered_on s.inputs h.entered k.enters (clashable topic).unread) (k.read_faults ∙ h.read_faults) ((clashable topic).certless name) (give_all topic cert h clash) m)

-- ---- before it

-- the clash text isn't begun yet
pub unread_clash : {x y : DeskState} {given : Given} (topic : Topic) → IsNewDesk x → ReadsSubject (topic_subject topic) x y given → (y.feeds (clash_feed (topic_subject topic))).begun ≡ false
unread_clash topic new h = ap (λ (feed : FeedState). feed.begun) (h.entered.begins.others (clash_feed (topic_subject topic)) (clashable topic).unread) ∙ new.feeds (clash_feed (topic_subject topic))

-- nor the certificate after it
pub unread_cert : {name : List ℕ} {x y w : DeskState} {given : Given} {made : Part} (topic : Topic) → IsNewDesk x → ReadsSubject (topic_subject topic) x y given → ReadsPart (clash_feed (topic_subject topic)) (asked_in given) name y w made → (w.feeds Certificate).begun ≡ false
unread_cert {name = name} topic new h k = ap (λ (feed : FeedState). feed.begun) ((entered_on (topic_subject topic).inputs h.entered k.enters (clashable topic).unread).begins.others Certificate ((clashable topic).certless name)) ∙ new.feeds Certificate

-- ---- the exits

-- the same stop of a command that has more inputs
stops_on : {inputs : List Named} {Gives More : Feed → Type 0} {Why Other : Report → Type 0} {x y : DeskState} {r : Report} (all more : List Named) → StopsReading inputs Gives Why x y r → all ≡ inputs ++ more → ((feed : Feed) → Gives feed → More feed) → (Why r → Other r) → StopsReading all More Other x y r
stops_on all more h parts same says = record { works = further all more None parts same h.early h.works; early = h.early; why = λ own. says (h.why own) }

-- the inputs give no value
pub check_stops : {x y : DeskState} {r : Report} (topic : Topic) (name cert : List ℕ) → StopsAtSubject (topic_subject topic) x y r → StopsAtClash (topic_subject topic) name cert x y r
check_stops {x = x} {r = r} topic name cert h = stops_on (check_clash_task (topic_subject topic) name cert).inputs (named_feed (clash_feed (topic_subject topic)) name ∷ named_feed Certificate cert ∷ []) h refl ((clashable topic).gives name x.held) ((clashable topic).refuses name cert x.held r)

-- the clash text gives no part
clash_stopped : {x y z : DeskState} {given : Given} {r : Report} (topic : Topic) (name cert : List ℕ) → (h : ReadsSubject (topic_subject topic) x y given) → StopsAtPart (clash_feed (topic_subject topic)) (asked (topic_subject topic) h.value) name y z r → StopsAtClash (topic_subject topic) name cert x z r
clash_stopped {x = x} topic name cert h k =
    let s = topic_subject topic in
    let G = ClashGives s name x.held in
    stops_on (check_clash_task s name cert).inputs (named_feed Certificate cert ∷ [])
    (part_stops {Gives = G} (ClashChecks s name cert x.held) h.entered h.read_faults (clashable topic).unread (before_last G s.inputs (named_feed (clash_feed s) name) (all_as (s.Gives x.held) G s.inputs ((clashable topic).gives name x.held) h.give))
    (λ long. (clashable topic).long name cert x.held (record { value = h.value; reads = h.reads; long = long }))
    (λ number word bad. (clashable topic).bad name cert x.held number word (record { value = h.value; reads = h.reads; bad = bad }))
    k) (sym (append_assoc s.inputs (named_feed (clash_feed s) name ∷ []) (named_feed Certificate cert ∷ []))) (λ feed given. given) (λ says. says)

pub check_clash_stops : {x y z : DeskState} {given : Given} {r : Report} (topic : Topic) (name cert : List ℕ) → ReadsSubject (topic_subject topic) x y given → StopsAtPart (clash_feed (topic_subject topic)) (asked_in given) name y z r → StopsAtClash (topic_subject topic) name cert x z r
check_clash_stops {y = y} {z = z} {r = r} topic name cert h k = clash_stopped topic name cert h (subst (λ (f : Wished). StopsAtPart (clash_feed (topic_subject topic)) f name y z r) (is_asked {s = topic_subject topic} h) k)

-- the clash is that of the bytes held at first
clash_of : {name : List ℕ} {x y w : DeskState} {given : Given} {made : Part} (topic : Topic) → (h : ReadsSubject (topic_subject topic) x y given) → ReadsPart (clash_feed (topic_subject topic)) (asked_in given) name y w made → IsClashOf (x.held name) (asked (topic_subject topic) h.value) made.clash
clash_of {name = name} {x = x} {given = given} {made = made} topic h k = subst (λ (f : Wished). IsClashOf (x.held name) f made.clash) (is_asked {s = topic_subject topic} h) (subst (λ (told : Option (List ℕ)). IsClashOf told (asked_in given) made.clash) (ap (λ held. held name) h.entered.begins.held) k.is)

gives_clash : {name : List ℕ} {x y w : DeskState} {given : Given} {made : Part} (topic : Topic) → ReadsSubject (topic_subject topic) x y given → ReadsPart (clash_feed (topic_subject topic)) (asked_in given) name y w made → GivesClash (topic_subject topic) name x.held
gives_clash {made = made} topic h k = record { value = h.value; reads = h.reads; clash = made.clash; is = clash_of topic h k }

-- the certificate isn't read to its end
common : (s : Subject) (name cert : List ℕ) (held : List ℕ → Option (List ℕ)) (stop : CertStop) → is_common (report_of_check by_number None None (Err stop)) ≡ false → ClashChecks s name cert held (report_of_check by_number None None (Err stop))
common s name cert held Fault own = absurd (cc)
common s name cert held NoMemory own = absurd (cc)

no_answer : (stop : CertStop) → speaks (report_of_check by_number None None (Err stop)) ≢ of_answer
no_answer Fault = λ e. absurd (cc)
no_answer NoMemory = λ e. absurd (cc)

pub check_breaks : {name cert : List ℕ} {x y w z : DeskState} {given : Given} {made : Part} (topic : Topic) (stop : CertStop) → ReadsSubject (topic_subject topic) x y given → ReadsPart (clash_feed (topic_subject topic)) (asked_in given) name y w made → ReadsCert Two KeepsNone made.flat cert w z (Err stop) → StopsAtClash (topic_subject topic) name cert x z (report_of_check by_number None None (Err stop))
check_breaks {name = name} {cert = cert} {x = x} topic stop h k m = record {
  works = read_works topic (Err stop) h k (gives_clash topic h k) m;
  early = no_answer stop;
  why = common (topic_subject topic) name cert x.held stop;
}

-- it has an outcome
pub check_meets : {name cert : List ℕ} {x y w z : DeskState} {given : Given} {made : Part} {read : ReadCert (Unit {0})} (topic : Topic) → ReadsSubject (topic_subject topic) x y given → ReadsPart (clash_feed (topic_subject topic)) (asked_in given) name y w made → ReadsCert Two KeepsNone made.flat cert w z (Ok read) → ReadsChecked (topic_subject topic) name cert x z (record { given = given; clash = made.clash; outcome = read.outcome })
check_meets {name = name} {cert = cert} {x = x} {w = w} {made = made} {read = read} topic h k m =
    let s = topic_subject topic in
    let f = asked s h.value in
    let kept = made.clash.kept in
    let is = clash_of topic h k in
    let held = ap (λ held. held cert) (k.enters.only.held ∙ h.entered.begins.held) in
    let parted = k.made ∙ ap (λ (f : Wished). part f kept) (is_asked {s = topic_subject topic} h) in
    let lines = subst (λ (told : Option (List ℕ)). ReadsLines Two KeepsNone (part f kept) told (cert_outcome (part f kept)) (cert_stream_to Two (shape_of (part f kept))) read) held (subst (λ (g : Problem). ReadsLines Two KeepsNone g (w.held cert) (cert_outcome g) (cert_stream_to Two (shape_of g)) read) parted m.reads.1) in
    let is_shown = shown read.outcome (subst IsFlat parted k.limits) lines lines.keeps.comes in
    record {
      works = part_works read.outcome (read_works topic (Ok read) h k (gives_clash topic h k) m);
      checks = record {
        value = h.value;
        reads = h.reads;
        clash = made.clash;
        is = is;
        met = drops_in topic x.held h.value made.clash h.reads is.says;
        outcome = comes (part f kept) lines.lines (x.held cert) read.outcome lines.keeps.comes;
        shown = is_shown;
        holds = holds_where topic x.held h.value made.clash read.outcome h.reads is.says is_shown;
      };
      clash = refl;
      naming = h.naming;
      printable = h.printable;
    }

-- ---- the reports

-- what was read and checked is reported
pub clash_checked : {s : Subject} {name cert : List ℕ} {x z end : DeskState} {read : CheckedClash} {status : Status} → ReadsChecked s name cert x z read → Ends (report_of_part read.outcome ∷ []) z end status → Carries (check_clash_task s name cert) x end status
clash_checked {s = s} {name = name} {cert = cert} {x = x} {z = z} {read = read} h ends = record {
  mid = z;
  reports = report_of_part read.outcome ∷ [];
  works = h.works;
  says = λ own. says s name cert x.held read.outcome h.checks;
  ends = ends;
}

-- why there is nothing to check is reported
pub clash_refused : {s : Subject} {name cert : List ℕ} {x z end : DeskState} {r : Report} {status : Status} → StopsAtClash s name cert x z r → Ends (r ∷ []) z end status → Carries (check_clash_task s name cert) x end status
clash_refused {s = s} {name = name} {cert = cert} h ends = stops_carries (check_clash_task s name cert) [] h (sym (append-nil _)) (λ feed given. given) (λ says. says) ends

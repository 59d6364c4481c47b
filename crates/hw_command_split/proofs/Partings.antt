-- A search within a part of a split of a subject, that goes on from a certificate.
use Rattle.std.proofs.Common.{◌≡◌, ◌==◌, ◌++◌, ◌∙◌, ℕ, ◌+◌, ◌-◌, Bool, true, false, List, [], ◌∷◌, Option, Some, None, Result, Ok, Err, Vec, All, IsTrue, inl, inr, append_assoc, ap, refl, subst, sym, get_or}
use Rattle.std.specs.declared.alloc.Global.{Global}
use Rattle.std.specs.Prelude.{codes, length, slice_get, if◌then◌else◌}
use Rattle.std.proofs.lemmas.List.Elements.{All-get_or}
use Rattle.std.proofs.lemmas.Option.{get_or_from_slice_get}
use Rattle.hw_lemmas.proofs.Lists.{get_within}
use Rattle.hw_model.specs.Limits.{IsFlat, ShapeFits}
use Rattle.hw_model.specs.Problem.{Problem, shape_of}
use Rattle.hw_model.specs.Rooms.{IsRoomOf, RoomFits, RoomModel, whole_room}
use Rattle.hw_model.specs.Timetables.{beats}
use Rattle.hw_model_laws.proofs.Denials.{inside_whole}
use Rattle.hw_desk.specs.State.{DeskState}
use Rattle.hw_desk.specs.declared.desk.DeskFailed.{DeskFailed}
use Rattle.hw_desk.specs.declared.desk.Feed.{Feed}
use Rattle.hw_desk.specs.declared.desk.Feed.TheVariants as feeds
use Rattle.hw_desk.specs.declared.desk.Tray.TheVariants as tray
use Rattle.hw_cert_lines.specs.declared.line.Line.{Line}
use Rattle.hw_cert_lines.specs.Lines.{best_of, last_table}
use Rattle.hw_cert_lines.specs.Valid.{LineFits, Valid}
use Rattle.hw_cert_laws.proofs.Proved.{says_all}
use Rattle.hw_cert.specs.declared.version.Version.TheVariants.{Three}
use Rattle.hw_cert.specs.Stream.{cert_stream_to}
use Rattle.hw_cert.specs.Texts.{cert_text}
use Rattle.hw_cert.proofs.Answered.{told_map}
use Rattle.hw_report.specs.Reports.{Report, Naming, bad_text, no_memory, part_told, refused, too_long}
use Rattle.hw_command.specs.Carries.{Carries}
use Rattle.hw_command.specs.Certificates.{cert_outcome_to, report_of_check}
use Rattle.hw_command.specs.Ends.{Ends, EndsWith}
use Rattle.hw_command.specs.Readings.{KeepsLines, ReadsCert, ReadsLines, outcome_in}
use Rattle.hw_command.specs.Scope.{Entered, GiveBefore, Named, named_feed}
use Rattle.hw_command.specs.Sending.{SendsTo}
use Rattle.hw_command.specs.Works.{Breaks, Works, is_common}
use Rattle.hw_command.specs.declared.cert.ReadCert.{ReadCert}
use Rattle.hw_command.specs.declared.outcome.CertOutcome.{CertOutcome}
use Rattle.hw_command.specs.declared.outcome.CertOutcome.TheVariants.{Shows, Wrong, TooLong}
use Rattle.hw_command.specs.declared.outcome.CertStop.{CertStop}
use Rattle.hw_command.specs.declared.outcome.CertStop.TheVariants.{Fault, NoMemory}
use Rattle.hw_command.specs.declared.status.Status.{Status}
use Rattle.hw_command.specs.declared.status.Status.TheVariants.{WriteFault}
use Rattle.hw_command.proofs.Begun.{entered_on, refuses, wants_memory}
use Rattle.hw_command.proofs.CertWorks.{cert_works}
use Rattle.hw_command.proofs.SentWorks.{broken_works, made, sent_works}
use Rattle.hw_command.proofs.Stops.{stops_carries}
use Rattle.hw_split_text.specs.Rooms.{HasRoom, OpenInTurn}
use Rattle.hw_split_text.specs.Splits.{Branch, IsSplit, branch_room, part_at, split_parts}
use Rattle.hw_split_text.proofs.Covering.{part_rooms, parts_open}
use Rattle.hw_split_text.specs.declared.node.Node.{Node}
use Rattle.hw_cert_closes.specs.Closing.{closes_room}
use Rattle.hw_cert_join.specs.Joining.{closes_branch}
use Rattle.hw_search_resumed.specs.Parts.{LineIsRefusedIn, PartGoesOn, PartStopsFor}
use Rattle.hw_search_resumed.specs.declared.resumed.Parted.{Parted}
use Rattle.hw_cert_course.specs.declared.stop.CourseStop.{CourseStop}
use Rattle.hw_cert_course.specs.declared.stop.CourseStop.TheVariants as stops
use Rattle.hw_cert_closes.proofs.Falsified.{room_closed}
use Rattle.hw_subject.specs.Meanings.{judged}
use Rattle.hw_subject.specs.Reading.{ReadsSubject, StopsAtSubject, naming_of, searched_in}
use Rattle.hw_subject.specs.Subjects.{Subject, Topic, topic_subject}
use Rattle.hw_subject.specs.declared.subject.Given.{Given}
use Rattle.hw_subject.proofs.Certified.{modelled}
use Rattle.hw_subject.proofs.Certless.{IsCertless, certless}
use Rattle.hw_subject.proofs.Readings.{all_as, all_on, before_last}
use Rattle.hw_subject.proofs.Shows.{ReadsOf, shown_of}
use Rattle.hw_command_split.specs.Parting.{GivesPart, GoesOnIn, IsClosedPart, PartDone, PartGives, PartSays, PartStarts, part_task}
use Rattle.hw_command_split.specs.Parts.{IsPartRoom, NoPartRoom, PartUnanswered, PartsTo, SendsParted}
use Rattle.hw_command.specs.Starting.{ShowsNothing, StartsCourse, StartsOn, Unstarted, stop_outcome}
use Rattle.hw_cert_course.specs.declared.going_on.Course.{Course}
use Rattle.hw_command_split.specs.Splits.{ReadsSplit, StopsAtSplit}
use Rattle.hw_command.specs.declared.ending.Ending.{Ending}
use Rattle.hw_command.specs.declared.ending.Ending.TheVariants as outcomes
use Rattle.hw_command.proofs.Started.{course_works, ok_same}
use Rattle.hw_command_split.proofs.SplitInputs.{IsSplitless, both_entered, split_of_judged, split_stops, splitless}

-- ---- the inputs

-- the inputs of the task, and those before the certificate
abbrev before : Subject → List ℕ → List Named
before s split = s.inputs ++ named_feed feeds.Split split ∷ []

same_inputs : (s : Subject) (split start : List ℕ) → before s split ++ named_feed feeds.Certificate start ∷ [] ≡ s.inputs ++ (named_feed feeds.Split split ∷ named_feed feeds.Certificate start ∷ [])
same_inputs s split start = append_assoc s.inputs (named_feed feeds.Split split ∷ []) (named_feed feeds.Certificate start ∷ [])

-- what the subject gives, in the words of the task
gives_on : (s : Subject) (split : List ℕ) (number : ℕ) (held : List ℕ → Option (List ℕ)) (feed : Feed) → IsSplitless s → s.Gives held feed → PartGives s split number held feed
gives_on s split number held feeds.Split h given = absurd (h.given held given)
gives_on s split number held feed h given = given

-- the split is read, and its part is there
abbrev gives_part : {s : Subject} {split : List ℕ} {number : ℕ} {x y z : DeskState} {given : Given} {nodes : List Node} {room : RoomModel} → (h : ReadsSubject s x y given) → ReadsSplit (searched_in given.flat given.repair) split y z nodes → IsPartRoom (searched_in given.flat given.repair) nodes number room → GivesPart s split number x.held
gives_part {nodes = nodes} h k p = record { value = h.value; reads = h.reads; nodes = nodes; is = split_of_judged h k; branch = p.branch; part = p.part }

give_all : {split : List ℕ} {number : ℕ} {x y z : DeskState} {given : Given} {nodes : List Node} {room : RoomModel} (topic : Topic) (start : List ℕ) → ReadsSubject (topic_subject topic) x y given → ReadsSplit (searched_in given.flat given.repair) split y z nodes → IsPartRoom (searched_in given.flat given.repair) nodes number room → GiveBefore (PartGives (topic_subject topic) split number x.held) (before (topic_subject topic) split ++ named_feed feeds.Certificate start ∷ [])
give_all {split = split} {number = number} {x = x} topic start h k p =
    let s = topic_subject topic in
    let G = PartGives s split number x.held in
    before_last G (before s split) (named_feed feeds.Certificate start) (all_on G s.inputs (named_feed feeds.Split split) (all_as (s.Gives x.held) G s.inputs (λ feed given. gives_on s split number x.held feed (splitless topic) given) h.give) (gives_part h k p))

-- all inputs were begun
all_entered : (topic : Topic) {split start : List ℕ} {x y z w : DeskState} {given : Given} {nodes : List Node} {f g : Problem} {result : Result (ReadCert (Vec Line Global)) CertStop} → ReadsSubject (topic_subject topic) x y given → ReadsSplit g split y z nodes → ReadsCert Three KeepsLines f start z w result → Entered (before (topic_subject topic) split ++ named_feed feeds.Certificate start ∷ []) x w
all_entered topic {split = split} h k m = entered_on (before (topic_subject topic) split) (both_entered topic h k) m.enters ((splitless topic).certless split)

-- what comes of what was read is what comes of the judged problem
of_judged : (s : Subject) (room : RoomModel) (start proof : List ℕ) (budget : ℕ) (z w : DeskState) (end : Ending Bool) {x y : DeskState} {given : Given} → (h : ReadsSubject s x y given) → PartsTo (searched_in given.flat given.repair) room start budget proof z w end → PartsTo (judged s h.value) room start budget proof z w end
of_judged s room start proof budget z w end h k = subst (λ (f : Problem). PartsTo f room start budget proof z w end) h.searched k

-- ---- the start

-- what the certificate shows
abbrev starts : (topic : Topic) {split start : List ℕ} {number : ℕ} {x y z w : DeskState} {given : Given} {nodes : List Node} {room : RoomModel} → (h : ReadsSubject (topic_subject topic) x y given) → ReadsSplit (searched_in given.flat given.repair) split y z nodes → IsPartRoom (searched_in given.flat given.repair) nodes number room → StartsOn KeepsLines (judged (topic_subject topic) h.value) start z w → PartStarts (topic_subject topic) split number start x.held
starts topic {start = start} {x = x} {z = z} h k p m =
    let s = topic_subject topic in
    let lines = m.reads.reads.1 in
    let found = subst (λ (o : CertOutcome). ReadsOf s h.value Three (z.held start) lines.lines o) m.outcome lines.keeps in
    let there = subst (λ (told : Option (List ℕ)). ReadsOf s h.value Three told lines.lines (Shows m.shows)) (ap (λ held. held start) (both_entered topic h k).begins.held) found in
    record {
      gives = gives_part h k p;
      shows = m.shows;
      bound = m.read.bound;
      table = last_table lines.lines;
      shown = shown_of s h.value Three (x.held start) lines.lines m.shows m.read.bound (modelled topic h) lines.formed lines.last there;
    }

-- ---- the inputs give nothing

refuses_says : (s : Subject) (split : List ℕ) (number : ℕ) (start : List ℕ) (budget : ℕ) (proof : List ℕ) (x y : DeskState) (r : Report) → IsCertless s → IsSplitless s → s.Refuses x.held r → PartSays s split number start budget proof x y (Some r)
refuses_says s split number start budget proof x y (part_told part is_closed) h d k = absurd (h.silent x.held _ k refl)
refuses_says s split number start budget proof x y (refused line word hint) h d k = absurd (h.refused x.held line word hint k)
refuses_says s split number start budget proof x y (too_long feeds.Certificate) h d k = absurd (h.long x.held k)
refuses_says s split number start budget proof x y (bad_text feeds.Split line word) h d k = absurd (d.bad x.held line word k)
refuses_says s split number start budget proof x y (too_long feeds.Split) h d k = absurd (d.long x.held k)
refuses_says s split number start budget proof x y r h d k = k

pub subject_stops : (topic : Topic) (split : List ℕ) (number : ℕ) (start : List ℕ) (budget : ℕ) (proof : List ℕ) {x y z : DeskState} {r : Report} {e : Status} → StopsAtSubject (topic_subject topic) x y r → Ends (r ∷ []) y z e → Carries (part_task (topic_subject topic) split number start budget proof) x z e
subject_stops topic split number start budget proof {x = x} {y = y} {r = r} h ends =
    let s = topic_subject topic in
    stops_carries (part_task s split number start budget proof) (named_feed feeds.Split split ∷ named_feed feeds.Certificate start ∷ []) h refl (λ feed given. gives_on s split number x.held feed (splitless topic) given) (refuses_says s split number start budget proof x y r (certless topic) (splitless topic)) ends

-- the split isn't one
pub split_refused : (topic : Topic) (split : List ℕ) (number : ℕ) (start : List ℕ) (budget : ℕ) (proof : List ℕ) {x y z end : DeskState} {given : Given} {r : Report} {e : Status} → ReadsSubject (topic_subject topic) x y given → StopsAtSplit (searched_in given.flat given.repair) split y z r → Ends (r ∷ []) z end e → Carries (part_task (topic_subject topic) split number start budget proof) x end e
split_refused topic split number start budget proof {x = x} {y = y} {z = z} {r = r} h k ends =
    let s = topic_subject topic in
    let G = PartGives s split number x.held in
    let Why = λ (r : Report). PartSays s split number start budget proof x z (Some r) in
    stops_carries (part_task s split number start budget proof) (named_feed feeds.Certificate start ∷ [])
    (split_stops {Gives = G} Why h.entered h.read_faults (splitless topic).unread (before_last G s.inputs (named_feed feeds.Split split) (all_as (s.Gives x.held) G s.inputs (λ feed given. gives_on s split number x.held feed (splitless topic) given) h.give))
    (λ long. record { value = h.value; reads = h.reads; long = long })
    (λ line word bad. record { value = h.value; reads = h.reads; bad = inl bad })
    (subst (λ (f : Problem). StopsAtSplit f split y z r) h.searched k))
    (sym (same_inputs s split start)) (λ feed given. given) (λ says. says) ends

-- it has no such part, or memory ran out for its room
pub part_refused : (topic : Topic) (split : List ℕ) (number : ℕ) (start : List ℕ) (budget : ℕ) (proof : List ℕ) {x y z end : DeskState} {given : Given} {nodes : List Node} {e : Status} (r : Report) → ReadsSubject (topic_subject topic) x y given → ReadsSplit (searched_in given.flat given.repair) split y z nodes → NoPartRoom nodes number r → Ends (r ∷ []) z end e → Carries (part_task (topic_subject topic) split number start budget proof) x end e
part_refused topic split number start budget proof {x = x} {z = z} {end = end} {nodes = nodes} {e = e} r h k room ends =
    let s = topic_subject topic in
    let task = part_task s split number start budget proof in
    let G = PartGives s split number x.held in
    let give = before_last G s.inputs (named_feed feeds.Split split) (all_as (s.Gives x.held) G s.inputs (λ feed given. gives_on s split number x.held feed (splitless topic) given) h.give) in
    let read = k.read_faults ∙ h.read_faults in
    elim room [
      | inl memory ↦ subst (λ (r : Report). Ends (r ∷ []) z end e → Carries task x end e) (sym memory) (λ ends. record {
        mid = z;
        reports = no_memory ∷ [];
        works = wants_memory (Some proof) (before s split) (named_feed feeds.Certificate start ∷ []) (sym (same_inputs s split start)) (both_entered topic h k) give read;
        says = λ own. absurd (cc);
        ends = ends;
      }) ends
      | inr lacks ↦ subst (λ (r : Report). Ends (r ∷ []) z end e → Carries task x end e) (sym lacks.report) (λ ends. record {
        mid = z;
        reports = bad_text feeds.Split (length nodes + 2) (codes "node") ∷ [];
        works = refuses (Some proof) s.inputs (named_feed feeds.Split split) (named_feed feeds.Certificate start ∷ []) _ (sym (same_inputs s split start)) refl (both_entered topic h k) give read;
        says = λ own. record { value = h.value; reads = h.reads; bad = inr (record { nodes = nodes; is = split_of_judged h k; lacks = lacks.lacks; last = refl; named = refl }) };
        ends = ends;
      }) ends
    ]

-- ---- the part

-- what holds of each part holds of the one of this number
part_has : (P : Branch → Type 0) (nodes : List Node) (number : ℕ) (branch : Branch) → All P (split_parts nodes) → part_at nodes number ≡ Some branch → P branch
part_has P nodes number branch all e = by (number == 0) e
  where
    by : (none : Bool) → (if none then None else slice_get (split_parts nodes) (number - 1)) ≡ Some branch → P branch
    by true e = absurd (cc)
    by false e =
        let there : get_or (split_parts nodes) (number - 1) branch ≡ branch = get_or_from_slice_get (split_parts nodes) (number - 1) branch branch e in
        subst P there (All-get_or P (split_parts nodes) (number - 1) branch (get_within (split_parts nodes) (number - 1) branch e) all)

-- its literals are open in turn
pub part_opens : (f : Problem) (nodes : List Node) (number : ℕ) (branch : Branch) → IsSplit (shape_of f) nodes → part_at nodes number ≡ Some branch → OpenInTurn (whole_room (shape_of f)) branch
part_opens f nodes number branch split e = part_has (OpenInTurn (whole_room (shape_of f))) nodes number branch (parts_open (shape_of f) nodes split) e

pub is_part_room : {f : Problem} {nodes : List Node} {number : ℕ} {branch : Branch} {room : RoomModel} → ShapeFits (shape_of f) → IsSplit (shape_of f) nodes → part_at nodes number ≡ Some branch → room ≡ branch_room (shape_of f) branch → IsPartRoom f nodes number room
is_part_room {f = f} {nodes = nodes} {number = number} {branch = branch} limits split e is = record { branch = branch; part = e; is = is; has = part_has (HasRoom (shape_of f)) nodes number branch (part_rooms (shape_of f) nodes limits split) e }

-- it is one of the problem
pub part_room_fits : {f : Problem} {nodes : List Node} {number : ℕ} {room : RoomModel} → IsPartRoom f nodes number room → RoomFits f room
part_room_fits {f = f} p = subst (IsRoomOf (shape_of f)) (sym p.is) p.has.is_room

-- ---- what a closed part means

not_above : (b : Bool) → (IsTrue b → ⊥) → b ≡ false
not_above true never = absurd (never refl)
not_above false never = refl

-- valid lines that close the part leave nothing in it that beats their best
pub closed_means : (f : Problem) (all : List Line) (branch : Branch) → IsFlat f → All (LineFits f) all → Valid f all → HasRoom (shape_of f) branch → closes_branch f all branch ≡ true → IsClosedPart f branch
closed_means f all branch flat fit valid has closes = record {
  best = last_table all;
  permitted = (says_all f all flat fit valid).permitted;
  none_better = λ table c permits holds worth.
      let inside = (has.inside table).1 (inside_whole f table permits.listed, holds) in
      not_above (beats c (best_of f all)) (room_closed f all (branch_room (shape_of f) branch) table c flat fit valid has.is_room closes inside permits worth);
}

-- ---- the certificate isn't gone on from

-- what was read of the certificate, by the judged problem and the bytes held at first
judged_lines : (topic : Topic) {split start : List ℕ} {x y z w : DeskState} {given : Given} {nodes : List Node} {f : Problem} {read : ReadCert (Vec Line Global)} → (h : ReadsSubject (topic_subject topic) x y given) → ReadsSplit f split y z nodes → ReadsCert Three KeepsLines (searched_in given.flat given.repair) start z w (Ok read) → ReadsLines Three KeepsLines (judged (topic_subject topic) h.value) (x.held start) (cert_outcome_to Three (judged (topic_subject topic) h.value)) (cert_stream_to Three (shape_of (judged (topic_subject topic) h.value))) read
judged_lines topic {start = start} {z = z} {w = w} {read = read} h k m =
    let f = judged (topic_subject topic) h.value in
    let own = subst (λ (f : Problem). ReadsCert Three KeepsLines f start z w (Ok read)) h.searched m in
    subst (λ (told : Option (List ℕ)). ReadsLines Three KeepsLines f told (cert_outcome_to Three f) (cert_stream_to Three (shape_of f)) read) (ap (λ held. held start) (both_entered topic h k).begins.held) own.reads.1

-- the certificate is refused
unstarted_says : (topic : Topic) {split start : List ℕ} {number : ℕ} (budget : ℕ) (proof : List ℕ) (names : Naming) {x y z w : DeskState} {given : Given} {nodes : List Node} {room : RoomModel} (result : Result (ReadCert (Vec Line Global)) CertStop) (stopped : Result CertOutcome CertStop) → (h : ReadsSubject (topic_subject topic) x y given) → ReadsSplit (searched_in given.flat given.repair) split y z nodes → IsPartRoom (searched_in given.flat given.repair) nodes number room → ReadsCert Three KeepsLines (searched_in given.flat given.repair) start z w result
    → stopped ≡ outcome_in result → ShowsNothing stopped → is_common (report_of_check names None None stopped) ≡ false → PartSays (topic_subject topic) split number start budget proof x w (Some (report_of_check names None None stopped))
unstarted_says topic budget proof names (Ok read) (Ok (Shows v)) h k p m is nothing own = absurd (cc)
unstarted_says topic {start = start} budget proof names {x = x} (Ok read) (Ok (Wrong number word hint)) h k p m is nothing own =
    let s = topic_subject topic in
    let lines = judged_lines topic h k m in
    inl (record { gives = gives_part h k p; refused = record { value = h.value; reads = h.reads; outcome = (subst (ReadsOf s h.value Three (x.held start) lines.lines) (ok_same (Wrong number word hint) read.outcome is) lines.keeps).comes } })
unstarted_says topic {start = start} budget proof names {x = x} (Ok read) (Ok TooLong) h k p m is nothing own =
    let s = topic_subject topic in
    let lines = judged_lines topic h k m in
    record { gives = gives_part h k p; refused = record { value = h.value; reads = h.reads; outcome = (subst (ReadsOf s h.value Three (x.held start) lines.lines) (ok_same TooLong read.outcome is) lines.keeps).comes } }
unstarted_says topic budget proof names (Err stop) (Ok o) h k p m is nothing own = absurd (cc)
unstarted_says topic budget proof names result (Err Fault) h k p m is nothing own = absurd (cc)
unstarted_says topic budget proof names result (Err NoMemory) h k p m is nothing own = absurd (cc)

-- in the inputs of the task
as_task : (s : Subject) (split start : List ℕ) {proof : List ℕ} {Gives : Feed → Type 0} {x w : DeskState} {r : Report} → Works (before s split ++ named_feed feeds.Certificate start ∷ []) Gives (Some proof) x w r → Works (s.inputs ++ (named_feed feeds.Split split ∷ named_feed feeds.Certificate start ∷ [])) Gives (Some proof) x w r
as_task s split start {proof = proof} {Gives = Gives} {x = x} {w = w} {r = r} works = subst (λ (inputs : List Named). Works inputs Gives (Some proof) x w r) (same_inputs s split start) works

-- the work up to it
unstarted_works : (topic : Topic) {split start proof : List ℕ} {number : ℕ} (names : Naming) {x y z w : DeskState} {given : Given} {nodes : List Node} {room : RoomModel} (result : Result (ReadCert (Vec Line Global)) CertStop) (stopped : Result CertOutcome CertStop) → ReadsSubject (topic_subject topic) x y given → ReadsSplit (searched_in given.flat given.repair) split y z nodes → IsPartRoom (searched_in given.flat given.repair) nodes number room → ReadsCert Three KeepsLines (searched_in given.flat given.repair) start z w result → stopped ≡ outcome_in result
    → Works (before (topic_subject topic) split ++ named_feed feeds.Certificate start ∷ []) (PartGives (topic_subject topic) split number x.held) (Some proof) x w (report_of_check names None None stopped)
unstarted_works topic {split = split} {start = start} {proof = proof} {number = number} names {x = x} {w = w} result stopped h k p m is =
    let s = topic_subject topic in
    subst (λ (o : Result CertOutcome CertStop). Works (before s split ++ named_feed feeds.Certificate start ∷ []) (PartGives s split number x.held) (Some proof) x w (report_of_check names None None o)) (sym is)
    (cert_works names None None (Some proof) result (both_entered topic h k) (k.read_faults ∙ h.read_faults) ((splitless topic).certless split) (give_all topic start h k p) m)

unstarted_meets : (topic : Topic) {split start proof : List ℕ} {number budget : ℕ} {x y z w end : DeskState} {given : Given} {nodes : List Node} {room : RoomModel} {e : Status} (names : Naming) (stopped : Result CertOutcome CertStop) → ReadsSubject (topic_subject topic) x y given → ReadsSplit (searched_in given.flat given.repair) split y z nodes → IsPartRoom (searched_in given.flat given.repair) nodes number room → Unstarted KeepsLines (searched_in given.flat given.repair) start z w stopped → Ends (report_of_check names None None stopped ∷ []) w end e → Carries (part_task (topic_subject topic) split number start budget proof) x end e
unstarted_meets topic {split = split} {start = start} {proof = proof} {budget = budget} {w = w} names stopped h k p m ends = record {
  mid = w;
  reports = report_of_check names None None stopped ∷ [];
  works = as_task (topic_subject topic) split start (unstarted_works topic names m.result stopped h k p m.reads m.told);
  says = λ own. unstarted_says topic budget proof names m.result stopped h k p m.reads m.told m.nothing own;
  ends = ends;
}

-- a line that the search added is refused, or memory ran out
unanswered_says : (topic : Topic) {split start : List ℕ} {number : ℕ} (budget : ℕ) (proof : List ℕ) (names : Naming) {x y z w : DeskState} {given : Given} {nodes : List Node} {room : RoomModel} {course : Course} (stop : CourseStop) → (h : ReadsSubject (topic_subject topic) x y given) → ReadsSplit (searched_in given.flat given.repair) split y z nodes → IsPartRoom (searched_in given.flat given.repair) nodes number room → (m : StartsCourse (judged (topic_subject topic) h.value) start z w course) → PartStopsFor (judged (topic_subject topic) h.value) course.lines.items room stop
    → is_common (report_of_check names None None (stop_outcome stop)) ≡ false → PartSays (topic_subject topic) split number start budget proof x w (Some (report_of_check names None None (stop_outcome stop)))
unanswered_says topic budget proof names {room = room} (stops.Refused number cause) h k p m stopped own =
    let s = topic_subject topic in
    let f = judged s h.value in
    let there = subst (λ (ls : List Line). LineIsRefusedIn f ls room number cause) m.lines stopped in
    let from = starts topic h k p m.starts in
    let is : room ≡ branch_room (shape_of f) p.branch = subst (λ (f : Problem). room ≡ branch_room (shape_of f) p.branch) h.searched p.is in
    inr (record { starts = from; unclosed = sym (ap (λ (room : RoomModel). closes_room room from.shown.lines) is) ∙ there.unclosed; cause = cause; fails = there.fails; word_of = refl; hint_of = refl })
unanswered_says topic budget proof names stops.NoMemory h k p m stopped own = absurd (cc)

unanswered_meets : (topic : Topic) {split start proof : List ℕ} {number budget : ℕ} {x y z w end : DeskState} {given : Given} {nodes : List Node} {room : RoomModel} {e : Status} (names : Naming) (stopped : Result CertOutcome CertStop) → (h : ReadsSubject (topic_subject topic) x y given) → ReadsSplit (searched_in given.flat given.repair) split y z nodes → IsPartRoom (searched_in given.flat given.repair) nodes number room → PartUnanswered (judged (topic_subject topic) h.value) room start z w stopped → Ends (report_of_check names None None stopped ∷ []) w end e → Carries (part_task (topic_subject topic) split number start budget proof) x end e
unanswered_meets topic {split = split} {start = start} {proof = proof} {budget = budget} {w = w} {end = end} {e = e} names stopped h k p m ends = record {
  mid = w;
  reports = report_of_check names None None (stop_outcome m.stop) ∷ [];
  works = as_task (topic_subject topic) split start (course_works (before (topic_subject topic) split) start names (Some proof) m.stop (all_entered topic h k m.starts.starts.reads) (give_all topic start h k p) (m.starts.starts.reads.reads.0 ∙ (k.read_faults ∙ h.read_faults)));
  says = λ own. unanswered_says topic budget proof names m.stop h k p m.starts m.cause own;
  ends = subst (λ (o : Result CertOutcome CertStop). Ends (report_of_check names None None o ∷ []) w end e) m.told ends;
}

-- ---- the lines went to Proof

-- the lines go on in the part's branch
goes_on_in : {f : Problem} {budget : ℕ} {branch : Branch} {start : List Line} {room : RoomModel} {parted : Parted} → room ≡ branch_room (shape_of f) branch → PartGoesOn f budget start room parted → GoesOnIn f branch budget parted.is_closed start parted.lines.items
goes_on_in {start = start} {parted = parted} is h = record {
  goes_on = h.goes_on;
  few = h.few;
  closed = h.closed ∙ ap (λ (room : RoomModel). closes_room room parted.lines.items) is;
  spent = h.spent;
  rooms = h.rooms;
  idle = λ e. h.idle (ap (λ (room : RoomModel). closes_room room start) is ∙ e);
}

closes : {f : Problem} {budget : ℕ} {branch : Branch} {is_closed : Bool} {start all : List Line} → GoesOnIn f branch budget is_closed start all → is_closed ≡ true → closes_branch f all branch ≡ true
closes h e = sym h.closed ∙ e

sent_says : (topic : Topic) {split start proof : List ℕ} {number budget : ℕ} {x y z w : DeskState} {given : Given} {nodes : List Node} {room : RoomModel} (is_closed : Bool) → (h : ReadsSubject (topic_subject topic) x y given) → ReadsSplit (searched_in given.flat given.repair) split y z nodes → IsPartRoom (searched_in given.flat given.repair) nodes number room → SendsParted (judged (topic_subject topic) h.value) room start budget proof z w is_closed (Ok tt) → PartDone (topic_subject topic) split number start budget proof x w is_closed
sent_says topic {split = split} {start = start} {proof = proof} {number = number} {budget = budget} {x = x} {w = w} {room = room} is_closed h k p m =
    let s = topic_subject topic in
    let f = judged s h.value in
    let parted = m.parted in
    let is = subst (λ (f : Problem). room ≡ branch_room (shape_of f) p.branch) h.searched p.is in
    let has = subst (λ (f : Problem). HasRoom (shape_of f) p.branch) h.searched p.has in
    let there = subst (λ (ls : List Line). PartGoesOn f budget ls room parted) m.starts.lines m.goes_on in
    let goes = goes_on_in is there in
    let done : PartDone s split number start budget proof x w parted.is_closed = record {
      starts = starts topic h k p m.starts.starts;
      made = made (all_entered topic h k m.starts.starts.reads) m.sends;
      means = λ e. closed_means f parted.lines.items p.branch (modelled topic h).limits goes.goes_on.fit goes.goes_on.valid has (closes goes e);
      certificate = told_map (w.trays tray.Proof).sent (λ bytes text. record { lines = parted.lines.items; text = text; goes_on = goes }) m.sends.answer.1;
    } in
    subst (λ (b : Bool). PartDone s split number start budget proof x w b) (sym m.closed) done

sent_meets : (topic : Topic) {split start proof : List ℕ} {number budget : ℕ} {x y z w end : DeskState} {given : Given} {nodes : List Node} {room : RoomModel} {e : Status} (is_closed : Bool) → (h : ReadsSubject (topic_subject topic) x y given) → ReadsSplit (searched_in given.flat given.repair) split y z nodes → IsPartRoom (searched_in given.flat given.repair) nodes number room → SendsParted (judged (topic_subject topic) h.value) room start budget proof z w is_closed (Ok tt) → Ends (part_told number is_closed ∷ []) w end e → Carries (part_task (topic_subject topic) split number start budget proof) x end e
sent_meets topic {split = split} {start = start} {number = number} {w = w} is_closed h k p m ends =
    let s = topic_subject topic in
    record {
      mid = w;
      reports = part_told number is_closed ∷ [];
      works = as_task s split start (sent_works (part_told number is_closed) refl (all_entered topic h k m.starts.starts.reads) (give_all topic start h k p) m.sends (m.sends.only.read_faults ∙ (m.starts.starts.reads.reads.0 ∙ (k.read_faults ∙ h.read_faults))));
      says = λ own. (refl, sent_says topic is_closed h k p m);
      ends = ends;
    }

-- a make or a write failed
broke_meets : (topic : Topic) {split start proof : List ℕ} {number budget : ℕ} {x y z w end : DeskState} {given : Given} {nodes : List Node} {room : RoomModel} {is_closed : Bool} {e : Status} → (h : ReadsSubject (topic_subject topic) x y given) → ReadsSplit (searched_in given.flat given.repair) split y z nodes → IsPartRoom (searched_in given.flat given.repair) nodes number room → SendsParted (judged (topic_subject topic) h.value) room start budget proof z w is_closed (Err (record {})) → EndsWith None w end e → Carries (part_task (topic_subject topic) split number start budget proof) x end e
broke_meets topic {split = split} {start = start} {proof = proof} {number = number} {budget = budget} {x = x} {w = w} {room = room} h k p m ends =
    let s = topic_subject topic in
    let there = subst (λ (ls : List Line). PartGoesOn (judged s h.value) budget ls room m.parted) m.starts.lines m.goes_on in
    record {
      mid = w;
      reports = [];
      works = subst (λ (inputs : List Named). Breaks inputs (PartGives s split number x.held) (Some proof) x w) (same_inputs s split start) (broken_works (all_entered topic h k m.starts.starts.reads) (give_all topic start h k p) (m.starts.starts.reads.reads.0 ∙ (k.read_faults ∙ h.read_faults)) m.sends);
      says = λ own. record { starts = starts topic h k p m.starts.starts; lines = m.parted.lines.items; goes_on = there.goes_on; cut = m.sends.answer.1 };
      ends = ends;
    }

-- ---- by what comes of the certificate

pub stopped_carries : (topic : Topic) {split start proof : List ℕ} {number budget : ℕ} {x y z end : DeskState} {given : Given} {nodes : List Node} {room : RoomModel} {e : Status} (w : DeskState) (stopped : Result CertOutcome CertStop) → (h : ReadsSubject (topic_subject topic) x y given) → ReadsSplit (searched_in given.flat given.repair) split y z nodes → IsPartRoom (searched_in given.flat given.repair) nodes number room → PartsTo (searched_in given.flat given.repair) room start budget proof z w (outcomes.Stopped stopped) → Ends (report_of_check (naming_of given.named) None None stopped ∷ []) w end e → Carries (part_task (topic_subject topic) split number start budget proof) x end e
stopped_carries topic {given = given} w stopped h k p (inl m) ends = unstarted_meets topic (naming_of given.named) stopped h k p m ends
stopped_carries topic {start = start} {z = z} {given = given} {room = room} w stopped h k p (inr m) ends = unanswered_meets topic (naming_of given.named) stopped h k p (subst (λ (f : Problem). PartUnanswered f room start z w stopped) h.searched m) ends

pub sent_carries : (topic : Topic) {split start proof : List ℕ} {number budget : ℕ} {x y z end : DeskState} {given : Given} {nodes : List Node} {room : RoomModel} {e : Status} (w : DeskState) (is_closed : Bool) → (h : ReadsSubject (topic_subject topic) x y given) → ReadsSplit (searched_in given.flat given.repair) split y z nodes → IsPartRoom (searched_in given.flat given.repair) nodes number room → PartsTo (searched_in given.flat given.repair) room start budget proof z w (outcomes.Sent is_closed) → Ends (part_told number is_closed ∷ []) w end e → Carries (part_task (topic_subject topic) split number start budget proof) x end e
sent_carries topic {start = start} {proof = proof} {budget = budget} {z = z} {room = room} w is_closed h k p m ends =
    sent_meets topic is_closed h k p (of_judged (topic_subject topic) room start proof budget z w (outcomes.Sent is_closed) h m) ends

pub broke_carries : (topic : Topic) {split start proof : List ℕ} {number budget : ℕ} {x y z : DeskState} {given : Given} {nodes : List Node} {room : RoomModel} (w : DeskState) → (h : ReadsSubject (topic_subject topic) x y given) → ReadsSplit (searched_in given.flat given.repair) split y z nodes → IsPartRoom (searched_in given.flat given.repair) nodes number room → PartsTo (searched_in given.flat given.repair) room start budget proof z w outcomes.WriteFailed → Carries (part_task (topic_subject topic) split number start budget proof) x w WriteFault
broke_carries topic {start = start} {proof = proof} {budget = budget} {z = z} {room = room} w h k p m =
    broke_meets topic h k p (of_judged (topic_subject topic) room start proof budget z w outcomes.WriteFailed h m).1 (refl, refl)

-- ---- the lines are sent

pub sends_parted : {f : Problem} {start proof : List ℕ} {budget : ℕ} {z v w : DeskState} {room : RoomModel} {sent : Result Unit DeskFailed} (course : Course) (parted : Parted) → StartsCourse f start z v course → PartGoesOn course.flat.now budget course.lines.items room parted → SendsTo proof (cert_text Three parted.lines.items) v w sent → SendsParted f room start budget proof z w parted.is_closed sent
sends_parted {budget = budget} {v = v} {room = room} course parted h goes_on sends = record {
  mid = v;
  course = course;
  starts = h;
  parted = parted;
  closed = refl;
  goes_on = subst (λ (f : Problem). PartGoesOn f budget course.lines.items room parted) h.stands.problem goes_on;
  sends = sends;
}

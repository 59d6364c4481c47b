-- Reading a flat text, a port, and a plan of either, as reading a subject.
use Rattle.std.proofs.Common.{◌≡◌, ◌∙◌, ◌++◌, ℕ, List, [], ◌∷◌, Option, None, Some, Ok, Err, false, refl, subst}
use Rattle.std.specs.Prelude.{IfSome}
use Rattle.hw_model.specs.Problem.{Problem}
use Rattle.hw_desk.specs.State.{DeskState}
use Rattle.hw_desk.specs.declared.desk.Feed.{Feed}
use Rattle.hw_desk.specs.declared.desk.Feed.TheVariants as feeds
use Rattle.hw_port.specs.Whole.{Parts}
use Rattle.hw_tide.specs.Levels.{TideParts}
use Rattle.hw_report.specs.Reports.{Report, bad_text, too_long}
use Rattle.hw_command.specs.Inputs.{ReadsFlat}
use Rattle.hw_command.specs.PortInputs.{ReadsPortProblem}
use Rattle.hw_command.specs.Scope.{Named as Input, named_feed, feed_is_among, GiveBefore}
use Rattle.hw_command.proofs.Begun.{entered_on}
use Rattle.hw_command.proofs.FlatForms.{gives_problem}
use Rattle.hw_command.proofs.PortForms.{port_given, gives_tide}
use Rattle.hw_command.proofs.Stops.{further}
use Rattle.hw_repair.specs.Repaired.{repaired}
use Rattle.hw_subject.specs.PlanInputs.{ReadsRepair, report_of_plan}
use Rattle.hw_subject.specs.Plans.{IsPlanOf, IsPlanText}
use Rattle.hw_subject.specs.Reading.{AllGive, ReadsSubject, StopsAtSubject}
use Rattle.hw_subject.specs.Subjects.{Subject, PlannedGives, NoPlanned, flat_subject, port_subject, subject_of_source, repair_of, repaired_by}
use Rattle.hw_subject.specs.declared.plan_input.PlanStop.{PlanStop}
use Rattle.hw_subject.specs.declared.plan_input.Repair.{Repair}
use Rattle.hw_subject.specs.declared.source.Named.TheVariants.{ByNumber, ByName}
use Rattle.hw_subject.specs.declared.source.Source.{Source}
use Rattle.hw_subject.specs.declared.source.Source.TheVariants.{Flat, Port}
use Rattle.hw_subject.specs.declared.subject.Given.{Given}
use Rattle.hw_subject.proofs.PlanForms.{plan_of, plan_stops}

pub flat_read : {name : List ℕ} {x y : DeskState} {f : Problem} → ReadsFlat name x y f → ReadsSubject (flat_subject name) x y (record { flat = f; named = ByNumber; repair = None })
flat_read {f = f} h = record {
  entered = h.entered;
  read_faults = h.read_faults;
  give = (gives_problem h, tt);
  value = f;
  reads = record { limits = h.limits; writable = h.writable; reads = h.reads };
  problem = refl;
  naming = refl;
  plan = refl;
  searched = refl;
  printable = tt;
  writable = h.writable;
}

pub port_read : {instance table : List ℕ} {x y : DeskState} {p : Parts} {t : TideParts} {f : Problem} → ReadsPortProblem instance table x y p t f → ReadsSubject (port_subject instance table) x y (record { flat = f; named = ByName p t; repair = None })
port_read {p = p} {t = t} h = record {
  entered = h.entered;
  read_faults = h.read_faults;
  give = (port_given h, (gives_tide h, tt));
  value = record { port = p; tide = t };
  reads = h.port;
  problem = h.problem;
  naming = refl;
  plan = refl;
  searched = h.problem;
  printable = (h.problem, h.port.columns);
  writable = h.writable;
}

-- ---- what inputs give

pub give_before : (G : Feed → Type 0) (xs : List Input) → AllGive G xs → GiveBefore G xs
give_before G [] h = tt
give_before G (last ∷ []) h = tt
give_before G (input ∷ next ∷ more) h = (h.0, give_before G (next ∷ more) h.1)

pub before_last : (G : Feed → Type 0) (xs : List Input) (last : Input) → AllGive G xs → GiveBefore G (xs ++ last ∷ [])
before_last G [] last h = tt
before_last G (input ∷ []) last h = (h.0, tt)
before_last G (input ∷ next ∷ more) last h = (h.0, before_last G (next ∷ more) last h.1)

pub all_on : (G : Feed → Type 0) (xs : List Input) (last : Input) → AllGive G xs → G last.feed → AllGive G (xs ++ last ∷ [])
all_on G [] last h k = (k, tt)
all_on G (input ∷ more) last h k = (h.0, all_on G more last h.1 k)

pub all_as : (G H : Feed → Type 0) (xs : List Input) → ((feed : Feed) → G feed → H feed) → AllGive G xs → AllGive H xs
all_as G H [] k h = tt
all_as G H (input ∷ more) k h = (k input.feed h.0, all_as G H more k h.1)

-- ---- a subject that is no repair

-- it doesn't begin a plan, and what it gives and refuses its repair does too
pub record Plain (s : Subject) : Type 0 where
  pub unread : feed_is_among s.inputs feeds.Plan ≡ false
  pub gives : (name : List ℕ) (held : List ℕ → Option (List ℕ)) (feed : Feed) → s.Gives held feed → PlannedGives s name held feed
  pub refuses : (name : List ℕ) (held : List ℕ → Option (List ℕ)) (r : Report) → s.Refuses held r → NoPlanned s name held r
  pub planless : (v : s.Value) → s.plan v ≡ None

flat_gives_on : (text name : List ℕ) (held : List ℕ → Option (List ℕ)) (feed : Feed) → (flat_subject text).Gives held feed → PlannedGives (flat_subject text) name held feed
flat_gives_on text name held feeds.Plan given = absurd given
flat_gives_on text name held feed given = given

flat_refuses_on : (text name : List ℕ) (held : List ℕ → Option (List ℕ)) (r : Report) → (flat_subject text).Refuses held r → NoPlanned (flat_subject text) name held r
flat_refuses_on text name held (bad_text feeds.Plan number word) h = absurd h
flat_refuses_on text name held (too_long feeds.Plan) h = absurd h
flat_refuses_on text name held r h = h

port_gives_on : (instance table name : List ℕ) (held : List ℕ → Option (List ℕ)) (feed : Feed) → (port_subject instance table).Gives held feed → PlannedGives (port_subject instance table) name held feed
port_gives_on instance table name held feeds.Plan given = absurd given
port_gives_on instance table name held feed given = given

port_refuses_on : (instance table name : List ℕ) (held : List ℕ → Option (List ℕ)) (r : Report) → (port_subject instance table).Refuses held r → NoPlanned (port_subject instance table) name held r
port_refuses_on instance table name held (bad_text feeds.Plan number word) h = absurd h
port_refuses_on instance table name held (too_long feeds.Plan) h = absurd h
port_refuses_on instance table name held r h = h

pub plain : (a : Source) → Plain (subject_of_source a)
plain (Flat text) = record { unread = refl; gives = flat_gives_on text.now; refuses = flat_refuses_on text.now; planless = λ v. refl }
plain (Port names) = record { unread = refl; gives = port_gives_on names.instance.now names.tides.now; refuses = port_refuses_on names.instance.now names.tides.now; planless = λ v. refl }

-- ---- its repair

pub planned_read : (s : Subject) (name : List ℕ) {x y z : DeskState} {given : Given} {repair : Repair} → Plain s → ReadsSubject s x y given → ReadsRepair given.flat name y z (Ok repair) → ReadsSubject (repair_of s name) x z (record { flat = given.flat; named = given.named; repair = Some repair })
planned_read s name {x = x} {given = given} {repair = repair} plain h k =
    let planned : IsPlanOf (x.held name) (s.problem h.value) repair.plan = subst (λ (g : Problem). IsPlanOf (x.held name) g repair.plan) h.problem (plan_of h.entered k) in
    record {
      entered = entered_on s.inputs h.entered k.enters plain.unread;
      read_faults = k.answer.2 ∙ h.read_faults;
      give = all_on (PlannedGives s name x.held) s.inputs (named_feed feeds.Plan name) (all_as (s.Gives x.held) (PlannedGives s name x.held) s.inputs (plain.gives name x.held) h.give) (record { value = record { value = h.value; plan = repair.plan }; reads = record { reads = h.reads; planned = planned } });
      value = record { value = h.value; plan = repair.plan };
      reads = record { reads = h.reads; planned = planned };
      problem = h.problem;
      naming = h.naming;
      plan = refl;
      searched = subst (λ (g : Problem). repair.flat ≡ repaired g repair.plan) h.problem k.answer.1;
      printable = h.printable;
      writable = h.writable;
    }

pub planless : (s : Subject) (name : List ℕ) {x y z : DeskState} {given : Given} (stop : PlanStop) → Plain s → ReadsSubject s x y given → ReadsRepair given.flat name y z (Err stop) → StopsAtSubject (repair_of s name) x z (report_of_plan stop)
planless s name {x = x} stop plain h k = plan_stops stop h.entered h.read_faults plain.unread
    (before_last (PlannedGives s name x.held) s.inputs (named_feed feeds.Plan name) (all_as (s.Gives x.held) (PlannedGives s name x.held) s.inputs (plain.gives name x.held) h.give))
    (λ long. (record { value = h.value; reads = h.reads }, long))
    (λ number word bad. record { value = h.value; reads = h.reads; wrong = record { kind = word; named = refl; reads = subst (λ (g : Problem). IfSome (x.held name) (IsPlanText g (Err (record { number = number; word = word })))) h.problem bad } }) k

pub stops_by : (s : Subject) (o : Option (List ℕ)) {x y : DeskState} {r : Report} → Plain s → StopsAtSubject s x y r → StopsAtSubject (repaired_by s o) x y r
stops_by s None plain h = h
stops_by s (Some name) {x = x} {r = r} plain h = record {
  works = further (s.inputs ++ named_feed feeds.Plan name ∷ []) (named_feed feeds.Plan name ∷ []) None refl (plain.gives name x.held) h.early h.works;
  early = h.early;
  why = λ own. plain.refuses name x.held r (h.why own);
}

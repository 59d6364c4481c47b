-- The bytes of a plan give one plan of a subject's problem, or one refusal, and never both.
use Rattle.std.proofs.Common.{◌≡◌, ◌≤◌, ◌<◌, ◌⊎◌, ◌∙◌, ℕ, cond, List, length, Option, Some, Result, Ok, Err, IfSome, inl, inr, sym, ap, subst, arith}
use Rattle.std.proofs.lemmas.Bool.{le-ltb, lt-ltb}
use Rattle.hw_model.specs.Problem.{Problem}
use Rattle.hw_desk.specs.declared.desk.Feed.TheVariants as feeds
use Rattle.hw_plan_texts.specs.Reading.{MalformedLine}
use Rattle.hw_repair.specs.Text.{plan_text}
use Rattle.hw_repair.specs.declared.fault.PlanWord.{PlanWord}
use Rattle.hw_repair.specs.Wishes.{PlanParts}
use Rattle.hw_cert.specs.declared.version.Version.{Version}
use Rattle.hw_cert.specs.declared.version.Version.TheVariants.{Two}
use Rattle.hw_report.specs.Reports.{Report, Naming, by_number, bad_text, too_long}
use Rattle.hw_command.specs.Values.{most_bytes, IsLong}
use Rattle.hw_subject.specs.Plans.{IsPlanOf, IsPlanText, IsWrongLine}
use Rattle.hw_subject.specs.Subjects.{Subject, Planned, ReadsPlanned, NoPlanned, repair_of}
use Rattle.hw_subject.specs.Decided.{IsDecided}
use Rattle.hw_subject.specs.Texts.{cert_report, planned_report, plan_report}

-- ---- by the bytes

within : (most : Version) (names : Naming) (f : Problem) (plan bytes : List ℕ) → length plan ≤ most_bytes → plan_report most names f (Some plan) bytes ≡ planned_report most names f (plan_text f plan) bytes
within most names f plan bytes h = ap (λ b. cond b (too_long feeds.Plan) (planned_report most names f (plan_text f plan) bytes)) (le-ltb _ _ h)

-- a plan of these parts
pub of_plan : (most : Version) (names : Naming) (f : Problem) (parts : PlanParts) (plan bytes : List ℕ) → IsPlanText f (Ok parts) plan → plan_report most names f (Some plan) bytes ≡ cert_report most names f (Some parts) bytes
of_plan most names f parts plan bytes h = within most names f plan bytes h.0 ∙ ap (λ read. planned_report most names f read bytes) h.1

wrong_is : (most : Version) (names : Naming) (f : Problem) (number : ℕ) (word plan bytes : List ℕ) → IsWrongLine (Some plan) f number word → bad_text feeds.Plan number word ≡ plan_report most names f (Some plan) bytes
wrong_is most names f number word plan bytes h = ap (bad_text feeds.Plan number) h.named ∙ sym (within most names f plan bytes h.reads.0 ∙ ap (λ read. planned_report most names f read bytes) h.reads.1)

long_is : (most : Version) (names : Naming) (f : Problem) (plan bytes : List ℕ) → IsLong plan → too_long feeds.Plan ≡ plan_report most names f (Some plan) bytes
long_is most names f plan bytes h = sym (ap (λ passes. cond passes (too_long feeds.Plan) (planned_report most names f (plan_text f plan) bytes)) (lt-ltb _ _ h))

-- ---- of a subject

-- a report that its plan's bytes decide
pub record OfPlan (s : Subject) (held : List ℕ → Option (List ℕ)) (most : Version) (names : Naming) (plan bytes : List ℕ) (r : Report) : Type 0 where
  pub value : s.Value
  pub reads : s.Reads held value
  pub report : r ≡ plan_report most names (s.problem value) (Some plan) bytes

-- why there is no plan: the subject is refused, or the plan's bytes decide
pub of_no_plan : (s : Subject) (name : List ℕ) (held : List ℕ → Option (List ℕ)) (most : Version) (names : Naming) (plan bytes : List ℕ) (r : Report) → held name ≡ Some plan → NoPlanned s name held r → s.Refuses held r ⊎ OfPlan s held most names plan bytes r
of_no_plan s name held most names plan bytes (bad_text feeds.Plan number word) told h = inr (record { value = h.value; reads = h.reads; report = wrong_is most names (s.problem h.value) number word plan bytes (subst (λ (o : Option (List ℕ)). IsWrongLine o (s.problem h.value) number word) told h.wrong) })
of_no_plan s name held most names plan bytes (too_long feeds.Plan) told h = inr (record { value = h.0.value; reads = h.0.reads; report = long_is most names (s.problem h.0.value) plan bytes (subst (λ (o : Option (List ℕ)). IfSome o IsLong) told h.1) })
of_no_plan s name held most names plan bytes r told h = inl h

one_read : {a b : PlanParts} {read : Result PlanParts (MalformedLine PlanWord)} → read ≡ Ok a → read ≡ Ok b → a ≡ b
one_read h k = cc

bad_read : {a : PlanParts} {bad : MalformedLine PlanWord} {read : Result PlanParts (MalformedLine PlanWord)} → read ≡ Ok a → read ≡ Err bad → ⊥
bad_read h k = absurd (cc)

too_many : {n m : ℕ} → n ≤ m → m < n → ⊥
too_many h k = omega arith

-- a plan of one value is read alike of another one
plan_at : (s : Subject) (plan : List ℕ) (v w : s.Value) (parts : PlanParts) → v ≡ w → IsPlanText (s.problem v) (Ok parts) plan → IsPlanText (s.problem w) (Ok parts) plan
plan_at s plan v w parts e h = subst (λ (u : s.Value). IsPlanText (s.problem u) (Ok parts) plan) e h

-- by the plan's bytes, where they are told
told_plan : {f : Problem} {parts : PlanParts} {o : Option (List ℕ)} (plan : List ℕ) → o ≡ Some plan → IsPlanOf o f parts → IsPlanText f (Ok parts) plan
told_plan {f = f} {parts = parts} plan e h = (subst (λ (told : Option (List ℕ)). IsPlanOf told f parts) e h).reads

one_planned : (s : Subject) (name : List ℕ) (held : List ℕ → Option (List ℕ)) (plan : List ℕ) → held name ≡ Some plan → IsDecided s held → (v w : Planned s) → ReadsPlanned s name held v → ReadsPlanned s name held w → v ≡ w
one_planned s name held plan told d v w h k =
    let same = d.one_value v.value w.value h.reads k.reads in
    let first = plan_at s plan v.value w.value v.plan same (told_plan plan told h.planned) in
    let second = told_plan plan told k.planned in
    let by_value : s.Value → Planned s = λ x. record { value = x; plan = v.plan } in
    let by_plan : PlanParts → Planned s = λ x. record { value = w.value; plan = x } in
    ap by_value same ∙ ap by_plan (one_read first.1 second.1)

no_plan_apart : (s : Subject) (name : List ℕ) (held : List ℕ → Option (List ℕ)) (plan : List ℕ) → held name ≡ Some plan → IsDecided s held → (v : Planned s) (r : Report) → ReadsPlanned s name held v → NoPlanned s name held r → ⊥
no_plan_apart s name held plan told d v (bad_text feeds.Plan number word) h k =
    let mine = plan_at s plan v.value k.value v.plan (d.one_value v.value k.value h.reads k.reads) (told_plan plan told h.planned) in
    bad_read mine.1 (subst (λ (o : Option (List ℕ)). IsWrongLine o (s.problem k.value) number word) told k.wrong).reads.1
no_plan_apart s name held plan told d v (too_long feeds.Plan) h k = too_many (told_plan plan told h.planned).0 (subst (λ (o : Option (List ℕ)). IfSome o IsLong) told k.1)
no_plan_apart s name held plan told d v r h k = d.apart v.value r h.reads k

one_plan_refusal : (s : Subject) (name : List ℕ) (held : List ℕ → Option (List ℕ)) (plan : List ℕ) → held name ≡ Some plan → IsDecided s held → (r t : Report) → NoPlanned s name held r → NoPlanned s name held t → r ≡ t
one_plan_refusal s name held plan told d r t h k = both (of_no_plan s name held Two by_number plan plan r told h) (of_no_plan s name held Two by_number plan plan t told k)
  where
    both : s.Refuses held r ⊎ OfPlan s held Two by_number plan plan r → s.Refuses held t ⊎ OfPlan s held Two by_number plan plan t → r ≡ t
    both (inl a) (inl b) = d.one_refusal r t a b
    both (inl a) (inr b) = absurd (d.apart b.value r b.reads a)
    both (inr a) (inl b) = absurd (d.apart a.value t a.reads b)
    both (inr a) (inr b) = a.report ∙ ap (λ (v : s.Value). plan_report Two by_number (s.problem v) (Some plan) plan) (d.one_value a.value b.value a.reads b.reads) ∙ sym b.report

-- the repair of a subject whose bytes decide
pub repair_decided : (s : Subject) (name : List ℕ) (held : List ℕ → Option (List ℕ)) (plan : List ℕ) → held name ≡ Some plan → IsDecided s held → IsDecided (repair_of s name) held
repair_decided s name held plan told d = record {
  one_value = one_planned s name held plan told d;
  one_refusal = one_plan_refusal s name held plan told d;
  apart = no_plan_apart s name held plan told d;
}

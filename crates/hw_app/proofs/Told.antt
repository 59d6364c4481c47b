-- What is told decides what is read of a command's inputs, whatever their names.
use Rattle.std.proofs.Common.{◌≡◌, ◌∙◌, ℕ, List, Option, Some, None, IsSome, refl, sym, ap, subst}
use Rattle.std.specs.Prelude.{IfSome, is_some}
use Rattle.hw_desk.specs.declared.desk.Feed.TheVariants.{Plan}
use Rattle.hw_model.specs.Problem.{Problem}
use Rattle.hw_report.specs.Reports.{Report, bad_text, too_long}
use Rattle.hw_command.specs.Inputs.{NoFlat}
use Rattle.hw_command.specs.PortInputs.{NoPort}
use Rattle.hw_command.specs.Values.{IsLong, IsPortOf}
use Rattle.hw_subject.specs.Plans.{IsPlanOf, IsWrongLine}
use Rattle.hw_subject.specs.Subjects.{Subject, IsProblemOf, Origin, Topic, flat_text, port_of, origin_subject, repair_of, repaired_by, topic_subject}
use Rattle.hw_subject.specs.Decided.{AllTold}
use Rattle.hw_app.specs.Told.{OriginTold, PlanTold, IsTold}

-- ---- over another desk

abbrev Held : Type 0
Held = List ℕ → Option (List ℕ)

-- what was read of one subject is read of another
pub record Moved (a b : Subject) (held : List ℕ → Option (List ℕ)) (v : a.Value) : Type 0 where
  pub value : b.Value
  pub reads : b.Reads held value
  pub problem : b.problem value ≡ a.problem v
  pub plan : b.plan value ≡ a.plan v
  pub naming : b.naming value ≡ a.naming v

origin_moved : (a b bytes : Origin) (h g : Held) → OriginTold h a bytes → OriginTold g b bytes → (v : (origin_subject a).Value) → (origin_subject a).Reads h v → Moved (origin_subject a) (origin_subject b) g v
origin_moved (flat_text n) (flat_text m) (flat_text text) h g x y f reads = record {
  value = f;
  reads = subst (λ (o : Option (List ℕ)). IsProblemOf o f) (x ∙ sym y) reads;
  problem = refl;
  plan = refl;
  naming = refl;
}
origin_moved (port_of i t) (port_of j u) (port_of port table) h g x y v reads = record {
  value = v;
  reads = subst (λ (o : Option (List ℕ)). IsPortOf o (g u) v.port v.tide) (x.0 ∙ sym y.0) (subst (λ (o : Option (List ℕ)). IsPortOf (h i) o v.port v.tide) (x.1 ∙ sym y.1) reads);
  problem = refl;
  plan = refl;
  naming = refl;
}
origin_moved (flat_text n) b (port_of port table) h g x y v reads = absurd x
origin_moved (port_of i t) b (flat_text text) h g x y v reads = absurd x
origin_moved (flat_text n) (port_of j u) (flat_text text) h g x y v reads = absurd y
origin_moved (port_of i t) (flat_text m) (port_of port table) h g x y v reads = absurd y

moved_by : (a b bytes : Origin) (p q plan : Option (List ℕ)) (h g : Held) → OriginTold h a bytes → OriginTold g b bytes → PlanTold h p plan → PlanTold g q plan → (v : (repaired_by (origin_subject a) p).Value) → (repaired_by (origin_subject a) p).Reads h v → Moved (repaired_by (origin_subject a) p) (repaired_by (origin_subject b) q) g v
moved_by a b bytes None None None h g x y z w v reads =
    let it = origin_moved a b bytes h g x y v reads in
    record { value = it.value; reads = it.reads; problem = it.problem; plan = it.plan; naming = it.naming }
moved_by a b bytes (Some n) (Some m) (Some plan) h g x y z w v reads =
    let it = origin_moved a b bytes h g x y v.value reads.reads in
    record {
      value = record { value = it.value; plan = v.plan };
      reads = record {
        reads = it.reads;
        planned = subst (λ (f : Problem). IsPlanOf (g m) f v.plan) (sym it.problem) (subst (λ (o : Option (List ℕ)). IsPlanOf o ((origin_subject a).problem v.value) v.plan) (z ∙ sym w) reads.planned);
      };
      problem = it.problem;
      plan = refl;
      naming = it.naming;
    }
moved_by a b bytes None q (Some plan) h g x y z w v reads = absurd z
moved_by a b bytes (Some n) q None h g x y z w v reads = absurd z
moved_by a b bytes None (Some m) None h g x y z w v reads = absurd w
moved_by a b bytes (Some n) None (Some plan) h g x y z w v reads = absurd w

pub moved : (a b bytes : Topic) (h g : Held) → IsTold h a bytes → IsTold g b bytes → (v : (topic_subject a).Value) → (topic_subject a).Reads h v → Moved (topic_subject a) (topic_subject b) g v
moved a b bytes h g x y v reads = moved_by a.origin b.origin bytes.origin a.plan b.plan bytes.plan h g x.0 y.0 x.1 y.1 v reads

-- ---- why there is no value

origin_refused : (a b bytes : Origin) (h g : Held) (r : Report) → OriginTold h a bytes → OriginTold g b bytes → (origin_subject a).Refuses h r → (origin_subject b).Refuses g r
origin_refused (flat_text n) (flat_text m) (flat_text text) h g r x y bad = subst (λ (o : Option (List ℕ)). NoFlat o r) (x ∙ sym y) bad
origin_refused (port_of i t) (port_of j u) (port_of port table) h g r x y bad = subst (λ (o : Option (List ℕ)). NoPort o (g u) r) (x.0 ∙ sym y.0) (subst (λ (o : Option (List ℕ)). NoPort (h i) o r) (x.1 ∙ sym y.1) bad)
origin_refused (flat_text n) b (port_of port table) h g r x y bad = absurd x
origin_refused (port_of i t) b (flat_text text) h g r x y bad = absurd x
origin_refused (flat_text n) (port_of j u) (flat_text text) h g r x y bad = absurd y
origin_refused (port_of i t) (flat_text m) (port_of port table) h g r x y bad = absurd y

plan_refused : (s t : Subject) (n m : List ℕ) (h g : Held) (r : Report) → h n ≡ g m → ((v : s.Value) → s.Reads h v → Moved s t g v) → ((o : Report) → s.Refuses h o → t.Refuses g o) → (repair_of s n).Refuses h r → (repair_of t m).Refuses g r
plan_refused s t n m h g (bad_text Plan number word) e move refuse bad =
    let it = move bad.value bad.reads in
    record {
      value = it.value;
      reads = it.reads;
      wrong = subst (λ (f : Problem). IsWrongLine (g m) f number word) (sym it.problem) (subst (λ (o : Option (List ℕ)). IsWrongLine o (s.problem bad.value) number word) e bad.wrong);
    }
plan_refused s t n m h g (too_long Plan) e move refuse bad =
    let it = move bad.0.value bad.0.reads in
    (record { value = it.value; reads = it.reads }, subst (λ (o : Option (List ℕ)). IfSome o IsLong) e bad.1)
plan_refused s t n m h g r e move refuse bad = refuse r bad

refused_by : (a b bytes : Origin) (p q plan : Option (List ℕ)) (h g : Held) (r : Report) → OriginTold h a bytes → OriginTold g b bytes → PlanTold h p plan → PlanTold g q plan → (repaired_by (origin_subject a) p).Refuses h r → (repaired_by (origin_subject b) q).Refuses g r
refused_by a b bytes None None None h g r x y z w bad = origin_refused a b bytes h g r x y bad
refused_by a b bytes (Some n) (Some m) (Some plan) h g r x y z w bad = plan_refused (origin_subject a) (origin_subject b) n m h g r (z ∙ sym w) (origin_moved a b bytes h g x y) (λ o. origin_refused a b bytes h g o x y) bad
refused_by a b bytes None q (Some plan) h g r x y z w bad = absurd z
refused_by a b bytes (Some n) q None h g r x y z w bad = absurd z
refused_by a b bytes None (Some m) None h g r x y z w bad = absurd w
refused_by a b bytes (Some n) None (Some plan) h g r x y z w bad = absurd w

pub refused_alike : (a b bytes : Topic) (h g : Held) (r : Report) → IsTold h a bytes → IsTold g b bytes → (topic_subject a).Refuses h r → (topic_subject b).Refuses g r
refused_alike a b bytes h g r x y bad = refused_by a.origin b.origin bytes.origin a.plan b.plan bytes.plan h g r x.0 y.0 x.1 y.1 bad

-- ---- each input is told

some_told : {o : Option (List ℕ)} (bytes : List ℕ) → o ≡ Some bytes → IsSome o
some_told bytes e = ap is_some e

all_by : (a bytes : Origin) (p plan : Option (List ℕ)) (h : Held) → OriginTold h a bytes → PlanTold h p plan → AllTold h (repaired_by (origin_subject a) p).inputs
all_by (flat_text n) (flat_text text) None None h x z = (some_told text x, tt)
all_by (flat_text n) (flat_text text) (Some m) (Some plan) h x z = (some_told text x, (some_told plan z, tt))
all_by (port_of i t) (port_of port table) None None h x z = (some_told port x.0, (some_told table x.1, tt))
all_by (port_of i t) (port_of port table) (Some m) (Some plan) h x z = (some_told port x.0, (some_told table x.1, (some_told plan z, tt)))
all_by (flat_text n) (port_of port table) p plan h x z = absurd x
all_by (port_of i t) (flat_text text) p plan h x z = absurd x
all_by (flat_text n) (flat_text text) None (Some plan) h x z = absurd z
all_by (flat_text n) (flat_text text) (Some m) None h x z = absurd z
all_by (port_of i t) (port_of port table) None (Some plan) h x z = absurd z
all_by (port_of i t) (port_of port table) (Some m) None h x z = absurd z

pub all_told : (a bytes : Topic) (h : Held) → IsTold h a bytes → AllTold h (topic_subject a).inputs
all_told a bytes h x = all_by a.origin bytes.origin a.plan bytes.plan h x.0 x.1

-- A walk finds the first of all faults.
use Rattle.std.proofs.Common.{◌≡◌, ℕ, ◌+◌, ◌++◌, List, [], ◌∷◌, Bool, true, false, Option, Some, None, refl}
use Rattle.hw_lemmas.specs.Operators.{◌>>=◌, ◌or_else◌}
use Rattle.hw_port.specs.declared.fault.Path.{Path}
use Rattle.hw_port.specs.declared.fault.PortFault.{PortFault}
use Rattle.hw_port.specs.declared.fault.PortWord.TheVariants.{Missing, Kind}
use Rattle.hw_port.specs.Faults.{fault_of}
use Rattle.serde_json.specs.Data.{Data, Items, no_items, item, Members as JsonMembers}
use Rattle.serde_json.specs.Find.{get, as_str, as_bool, as_array, as_object}
use Rattle.hw_read.specs.declared.stars.Stars.{Stars}
use Rattle.hw_read.specs.Places.{path, deeper}
use Rattle.hw_read.specs.Form.{formed_value, whole_number, all_named, named_only}
use Rattle.hw_read.specs.Table.{Entry, Members, number, text, truth, list, object, no_more, member, entry_place, names_in, kind_faults, each_faults, list_faults, other_faults, object_faults, member_faults, entry_faults, members_faults, first_of}
use Rattle.hw_read.specs.Walk.{Test, each_fault, items_fault, member_fault, entry_fault, members_fault}

first_append : (xs ys : List PortFault) → first_of xs or_else first_of ys ≡ first_of (xs ++ ys)
first_append [] ys = refl
first_append (x ∷ xs) ys = refl

joined : (a b : Option PortFault) (xs ys : List PortFault) → a ≡ first_of xs → b ≡ first_of ys → a or_else b ≡ first_of (xs ++ ys)
joined a b xs ys e f = rw (e, f) (first_append xs ys)

of_kind : {A : Type 0} (p : Path) (o : Option A) → fault_of (formed_value p Kind o) ≡ first_of (kind_faults p o)
of_kind p None = refl
of_kind p (Some x) = refl

abbrev Agrees : Test → (Stars → Data → List PortFault) → Type 0
Agrees test faults = (s : Stars) (d : Data) → test s d ≡ first_of (faults s d)

of_each : (test : Test) (faults : Stars → Data → List PortFault) → Agrees test faults → (s : Stars) (i : ℕ) (ds : Items) → each_fault test s i ds ≡ first_of (each_faults faults s i ds)
of_each test faults h s i no_items = refl
of_each test faults h s i (item d ds) = joined (test (deeper s i) d) (each_fault test s (i + 1) ds) (faults (deeper s i) d) (each_faults faults s (i + 1) ds) (h (deeper s i) d) (of_each test faults h s (i + 1) ds)

of_list : (test : Test) (faults : Stars → Data → List PortFault) → Agrees test faults → (p : Path) (s : Stars) (o : Option Items) → items_fault test s (formed_value p Kind o) ≡ first_of (list_faults faults p s o)
of_list test faults h p s None = refl
of_list test faults h p s (Some ds) = of_each test faults h s 0 ds

of_member : (test : Test) (faults : Stars → Data → List PortFault) → Agrees test faults → (p : Path) (s : Stars) (o : Option Data) → member_fault test s (formed_value p Missing o) ≡ first_of (member_faults faults p s o)
of_member test faults h p s None = refl
of_member test faults h p s (Some d) = h s d

of_names : (p : Path) (b : Bool) → fault_of (named_only p b) ≡ first_of (other_faults p b)
of_names p true = refl
of_names p false = refl

of_object : (p : Path) (names : List (List ℕ)) (a : Option PortFault) (inside : List PortFault) → a ≡ first_of inside → (o : Option JsonMembers) → fault_of (formed_value p Kind o >>= λ ms. named_only p (all_named names ms)) or_else a ≡ first_of (object_faults p names inside o)
of_object p names a inside e None = refl
of_object p names a inside e (Some ms) = joined (fault_of (named_only p (all_named names ms))) a (other_faults p (all_named names ms)) inside (of_names p (all_named names ms)) e

mutual
  pub of_entry : (p : Entry) (s : Stars) (d : Data) → entry_fault p s d ≡ first_of (entry_faults p s d)
  of_entry (number n) s d = of_kind (path n s) (whole_number d)
  of_entry (text n) s d = of_kind (path n s) (as_str d)
  of_entry (truth n) s d = of_kind (path n s) (as_bool d)
  of_entry (list n p) s d = of_list (entry_fault p) (entry_faults p) (of_entry p) (path n s) s (as_array d)
  of_entry (object n ms) s d = of_object (path n s) (names_in ms) (members_fault ms s d) (members_faults ms s d) (of_members ms s d) (as_object d)

  pub of_members : (ms : Members) (s : Stars) (d : Data) → members_fault ms s d ≡ first_of (members_faults ms s d)
  of_members no_more s d = refl
  of_members (member name p ms) s d = joined _ _ _ _ (of_member (entry_fault p) (entry_faults p) (of_entry p) (path (entry_place p) s) s (get name d)) (of_members ms s d)

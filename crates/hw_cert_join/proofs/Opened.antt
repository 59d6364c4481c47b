-- The parts of a split, one after another.
use Rattle.std.proofs.Common.{◌≡◌, ◌∙◌, ◌+◌, ◌-◌, ◌<◌, ◌≤◌, ◌++◌, ℕ, List, [], ◌∷◌, Option, Some, true, false, length, take, drop, get_or, drop-cons, add-one, refl, sym, ap, subst, append_assoc, arith, length-append, append-nil, ◌==◌}
use Rattle.std.specs.Prelude.{All, IsSomeAnd, slice_get}
use Rattle.std.proofs.lemmas.Bool.{ne_eqb}
use Rattle.std.proofs.lemmas.List.Elements.{All-head, All-push, All-tail}
use Rattle.std.proofs.lemmas.Option.{same_Some}
use Rattle.std.proofs.Math.ListN.{drop_of_length-le}
use Rattle.hw_model.specs.Problem.{Problem, shape_of}
use Rattle.hw_model.specs.Rooms.{whole_room}
use Rattle.hw_cert_lines.specs.declared.line.Line.{Line}
use Rattle.hw_split_text.specs.declared.node.Node.{Node}
use Rattle.hw_split_text.specs.declared.node.Node.TheVariants.{Fork, Part}
use Rattle.hw_split_text.specs.Splits.{Branch, Completes, IsSplit, part_at, parts_from, split_parts, waiting_after}
use Rattle.hw_split_text.specs.Rooms.{OpenInTurn}
use Rattle.hw_split_text.proofs.Covering.{parts_open}
use Rattle.hw_cert_join.specs.Joining.{ClosesEach, IsFirstOpen, closes_branch}

-- the parts before the nodes that are left, each closed by the lines, and the branches that wait for these nodes
pub record PartsAlong (f : Problem) (all : List Line) (nodes : List Node) (count : ℕ) (waiting : List Branch) (left : List Node) : Type 0 where
  pub done : List Branch
  pub parts : split_parts nodes ≡ done ++ parts_from waiting left
  pub closed : All (λ branch. closes_branch f all branch ≡ true) done
  pub counted : length done ≡ count
  pub completes : Completes (shape_of f) waiting left

-- a fork opens two branches
past_fork : {f : Problem} {all : List Line} {nodes next : List Node} {count ship slot : ℕ} (waiting : List Branch) → PartsAlong f all nodes count waiting (Fork ship slot ∷ next) → PartsAlong f all nodes count (waiting_after (Fork ship slot) waiting) next
past_fork [] h = absurd h.completes.0
past_fork (branch ∷ waiting) h = record { done = h.done; parts = h.parts; closed = h.closed; counted = h.counted; completes = h.completes.1 }

-- a part that is closed
past_part : {f : Problem} {all : List Line} {nodes next : List Node} {count : ℕ} {branch : Branch} {later : List Branch} → PartsAlong f all nodes count (branch ∷ later) (Part ∷ next) → closes_branch f all branch ≡ true → PartsAlong f all nodes (count + 1) later next
past_part {f = f} {all = all} {nodes = nodes} {next = next} {count = count} {branch = branch} {later = later} h closes = record {
  done = h.done ++ branch ∷ [];
  parts = h.parts ∙ sym (append_assoc h.done (branch ∷ []) (parts_from later next));
  closed = All-push (λ branch. closes_branch f all branch ≡ true) h.done branch h.closed closes;
  counted = length-append h.done (branch ∷ []) ∙ ap (λ (n : ℕ). n + 1) h.counted;
  completes = h.completes.1;
}

get_at : (done later : List Branch) (branch : Branch) → slice_get (done ++ branch ∷ later) (length done) ≡ Some branch
get_at [] later branch = refl
get_at (first ∷ done) later branch = get_at done later branch

take_done : (done later : List Branch) → take (length done) (done ++ later) ≡ done
take_done [] later = refl
take_done (first ∷ done) later = ap (λ (ls : List Branch). first ∷ ls) (take_done done later)

-- a part that isn't
open_part : {f : Problem} {all : List Line} {nodes next : List Node} {count : ℕ} {branch : Branch} {later : List Branch} → PartsAlong f all nodes count (branch ∷ later) (Part ∷ next) → closes_branch f all branch ≡ false → IsFirstOpen f nodes all (count + 1)
open_part {f = f} {all = all} {nodes = nodes} {next = next} {count = count} {branch = branch} {later = later} h open_it =
    let some : (count + 1 == 0) ≡ false = ne_eqb (count + 1) 0 (λ e. absurd (omega (arith, e))) in
    let place : (count + 1) - 1 ≡ count = omega arith in
    let found : slice_get (split_parts nodes) count ≡ Some branch = ap (λ (ls : List Branch). slice_get ls count) h.parts ∙ ap (slice_get (h.done ++ branch ∷ parts_from later next)) (sym h.counted) ∙ get_at h.done (parts_from later next) branch in
    let numbered : part_at nodes (count + 1) ≡ Some branch = rw (some, place) found in
    let before : take count (split_parts nodes) ≡ h.done = ap (take count) h.parts ∙ ap (λ (n : ℕ). take n (h.done ++ branch ∷ parts_from later next)) (sym h.counted) ∙ take_done h.done (branch ∷ parts_from later next) in
    record {
      part = subst (λ (o : Option Branch). IsSomeAnd o (λ b. closes_branch f all b ≡ false)) (sym numbered) open_it;
      earlier = rw (place, before) h.closed;
    }

-- the branch of a part is open in turn
at_place : (P : Branch → Type 0) (done later : List Branch) (branch : Branch) → All P (done ++ branch ∷ later) → P branch
at_place P [] later branch h = All-head P branch later h
at_place P (first ∷ done) later branch h = at_place P done later branch (All-tail P first (done ++ branch ∷ later) h)

part_free : {f : Problem} {all : List Line} {nodes next : List Node} {count : ℕ} {branch : Branch} {later : List Branch} → PartsAlong f all nodes count (branch ∷ later) (Part ∷ next) → IsSplit (shape_of f) nodes → OpenInTurn (whole_room (shape_of f)) branch
part_free {f = f} {nodes = nodes} {next = next} {branch = branch} {later = later} h is = at_place (OpenInTurn (whole_room (shape_of f))) h.done (parts_from later next) branch (subst (All (OpenInTurn (whole_room (shape_of f)))) h.parts (parts_open (shape_of f) nodes is))

-- ---- as a loop over the nodes meets them

next_node : (nodes : List Node) (i : ℕ) (d : Node) → i < length nodes → drop i nodes ≡ get_or nodes i d ∷ drop (i + 1) nodes
next_node nodes i d lt = rw (add-one, drop-cons nodes i d lt) refl

-- the branch that waits for the node
waits_first : (waiting : List Branch) (branch : Branch) → Some branch ≡ slice_get waiting 0 → (later : List Branch) × (waiting ≡ branch ∷ later)
waits_first [] branch e = absurd cc
waits_first (first ∷ later) branch e = (later, ap (λ (b : Branch). b ∷ later) (sym (same_Some branch first e)))

-- a part's branch, which comes first, and its node
record AtPart (f : Problem) (all : List Line) (nodes next : List Node) (count : ℕ) (waiting : List Branch) (branch : Branch) : Type 0 where
  later : List Branch
  first : waiting ≡ branch ∷ later
  along : PartsAlong f all nodes count (branch ∷ later) (Part ∷ next)

at_part : {f : Problem} {all : List Line} {nodes : List Node} {count i : ℕ} {waiting : List Branch} (node : Node) (branch : Branch) → i < length nodes → get_or nodes i node ≡ Part → Some branch ≡ slice_get waiting 0 → PartsAlong f all nodes count waiting (drop i nodes) → AtPart f all nodes (drop (i + 1) nodes) count waiting branch
at_part {f = f} {all = all} {nodes = nodes} {count = count} {i = i} {waiting = waiting} node branch lt is first h =
    let found = waits_first waiting branch first in
    let cut : drop i nodes ≡ Part ∷ drop (i + 1) nodes = next_node nodes i node lt ∙ ap (λ (n : Node). n ∷ drop (i + 1) nodes) is in
    record {
      later = found.0;
      first = found.1;
      along = subst (λ (bs : List Branch). PartsAlong f all nodes count bs (Part ∷ drop (i + 1) nodes)) found.1 (subst (PartsAlong f all nodes count waiting) cut h);
    }

pub free_part : {f : Problem} {all : List Line} {nodes split : List Node} {count i : ℕ} {waiting : List Branch} (node : Node) (branch : Branch) → nodes ≡ split → IsSplit (shape_of f) split → i < length nodes → get_or nodes i node ≡ Part → Some branch ≡ slice_get waiting 0 → PartsAlong f all nodes count waiting (drop i nodes) → OpenInTurn (whole_room (shape_of f)) branch
free_part {f = f} node branch same is lt part first h = part_free (at_part node branch lt part first h).along (subst (IsSplit (shape_of f)) (sym same) is)

pub part_left : {f : Problem} {all : List Line} {nodes split : List Node} {count i : ℕ} {waiting : List Branch} (node : Node) (branch : Branch) (number : ℕ) → nodes ≡ split → i < length nodes → get_or nodes i node ≡ Part → Some branch ≡ slice_get waiting 0 → PartsAlong f all nodes count waiting (drop i nodes) → number ≡ count → closes_branch f all branch ≡ false → IsFirstOpen f split all (number + 1)
part_left {f = f} {all = all} {nodes = nodes} {count = count} node branch number same lt part first h counted opened =
    let here : IsFirstOpen f nodes all (count + 1) = open_part (at_part node branch lt part first h).along opened in
    subst (λ (ns : List Node). IsFirstOpen f ns all (number + 1)) same (subst (λ (n : ℕ). IsFirstOpen f nodes all (n + 1)) (sym counted) here)

pub part_done : {f : Problem} {all : List Line} {nodes : List Node} {count more i : ℕ} {waiting after : List Branch} (node : Node) (branch : Branch) → i < length nodes → get_or nodes i node ≡ Part → Some branch ≡ slice_get waiting 0 → PartsAlong f all nodes count waiting (drop i nodes) → more ≡ count + 1 → closes_branch f all branch ≡ true → after ≡ waiting_after (get_or nodes i node) waiting → PartsAlong f all nodes more after (drop (i + 1) nodes)
part_done {f = f} {all = all} {nodes = nodes} {count = count} {i = i} {waiting = waiting} {after = after} node branch lt part first h counted closes passed =
    let at = at_part node branch lt part first h in
    let there : after ≡ at.later = passed ∙ ap (λ (n : Node). waiting_after n waiting) part ∙ ap (waiting_after Part) at.first in
    subst (λ (n : ℕ). PartsAlong f all nodes n after (drop (i + 1) nodes)) (sym counted) (subst (λ (bs : List Branch). PartsAlong f all nodes (count + 1) bs (drop (i + 1) nodes)) (sym there) (past_part at.along closes))

pub fork_done : {f : Problem} {all : List Line} {nodes : List Node} {count i : ℕ} {waiting after : List Branch} (node : Node) (ship slot : ℕ) → i < length nodes → get_or nodes i node ≡ Fork ship slot → PartsAlong f all nodes count waiting (drop i nodes) → after ≡ waiting_after (get_or nodes i node) waiting → PartsAlong f all nodes count after (drop (i + 1) nodes)
fork_done {f = f} {all = all} {nodes = nodes} {count = count} {i = i} {waiting = waiting} {after = after} node ship slot lt fork h passed =
    let cut : drop i nodes ≡ Fork ship slot ∷ drop (i + 1) nodes = next_node nodes i node lt ∙ ap (λ (n : Node). n ∷ drop (i + 1) nodes) fork in
    let there : after ≡ waiting_after (Fork ship slot) waiting = passed ∙ ap (λ (n : Node). waiting_after n waiting) fork in
    subst (λ (bs : List Branch). PartsAlong f all nodes count bs (drop (i + 1) nodes)) (sym there) (past_fork waiting (subst (PartsAlong f all nodes count waiting) cut h))

-- no nodes are left
each_closed : {f : Problem} {all : List Line} {nodes : List Node} {count : ℕ} {waiting : List Branch} → PartsAlong f all nodes count waiting [] → ClosesEach f nodes all
each_closed {f = f} {all = all} h = subst (λ (bs : List Branch). All (λ branch. closes_branch f all branch ≡ true) bs) (sym (h.parts ∙ append-nil h.done)) h.closed

pub all_done : {f : Problem} {all : List Line} {nodes split : List Node} {count i : ℕ} {waiting : List Branch} → nodes ≡ split → length nodes ≤ i → PartsAlong f all nodes count waiting (drop i nodes) → ClosesEach f split all
all_done {f = f} {all = all} {nodes = nodes} {count = count} {waiting = waiting} same le h = subst (λ (ns : List Node). ClosesEach f ns all) same (each_closed (subst (PartsAlong f all nodes count waiting) (drop_of_length-le nodes le) h))

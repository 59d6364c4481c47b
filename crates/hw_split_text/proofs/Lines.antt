-- Reading the nodes one after the other, as a loop does.
use Rattle.std.proofs.Common.{◌≡◌, ◌==◌, ℕ, ◌+◌, ◌-◌, ◌<◌, ◌≤◌, ◌&&◌, nat_lt, nat_le, true, List, [], ◌∷◌, ◌++◌, map, length, Some, None, Ok, Err, slice_get, replicate, refl, sym, ap, subst, ◌∙◌, append_assoc, arith}
use Rattle.std.proofs.lemmas.List.{append-nil, length_push}
use Rattle.std.proofs.lemmas.Bool.{ltb-true, leb-true, and_parts}
use Rattle.std.proofs.lemmas.Option.{same_Some}
use Rattle.hw_lemmas.specs.Operators.{◌>>=◌}
use Rattle.hw_model.specs.declared.lit.Lit.TheVariants.{AtOrAfter}
use Rattle.hw_model.specs.declared.shape.Shape.{Shape}
use Rattle.hw_model.specs.Lits.{lit_fits}
use Rattle.hw_plan_texts.specs.declared.fault.LineFault.{LineFault}
use Rattle.hw_plan_texts.specs.declared.fault.LineFault.TheVariants as faults
use Rattle.hw_plan_texts.specs.Reading.{MalformedLine, TextReadFails}
use Rattle.hw_text.specs.Parts.{parts_of}
use Rattle.hw_text.proofs.Splits.{has_part}
use Rattle.hw_split_text.specs.declared.fault.SplitWord.{SplitWord}
use Rattle.hw_split_text.specs.declared.node.Node.{Node}
use Rattle.hw_split_text.specs.declared.node.Node.TheVariants.{Fork, Part}
use Rattle.hw_split_text.specs.Splits.{Branch, waiting_after, is_inside, node_fits}
use Rattle.hw_split_text.specs.Ranges.{ShipRanges, ranges_of, open_after, NamesRange}
use Rattle.hw_split_text.specs.Text.{node_at, nodes_at}
use Rattle.hw_split_text.proofs.Fitting.{Parts, NodesRead, node_read, rest_is, after_more}
use Rattle.hw_split_text.proofs.Rooms.{each_range, open_follows}

-- ---- what was read so far

-- what was read before, and what is still read
abbrev pub prefixed : List Node → NodesRead → NodesRead
prefixed front read = read >>= λ x. Ok (front ++ x.0, x.1)

regroup : (front : List Node) (node : Node) (read : NodesRead) → prefixed front (read >>= after_more node) ≡ prefixed (front ++ node ∷ []) read
regroup front node (Ok x) = ap (λ (ns : List Node). Ok (ns, x.1)) (sym (append_assoc front (node ∷ []) x.0))
regroup front node (Err f) = refl

nothing_before : (read : NodesRead) → prefixed [] read ≡ read
nothing_before (Ok x) = refl
nothing_before (Err f) = refl

-- the branches that wait after some nodes
abbrev pub waiting_from : List Branch → List Node → List Branch
waiting_from waiting [] = waiting
waiting_from waiting (node ∷ nodes) = waiting_from (waiting_after node waiting) nodes

waiting_push : (waiting : List Branch) (front : List Node) (node : Node) → waiting_from waiting (front ++ node ∷ []) ≡ waiting_after node (waiting_from waiting front)
waiting_push waiting [] node = refl
waiting_push waiting (first ∷ front) node = waiting_push (waiting_after first waiting) front node

-- the ranges follow the branches that wait, and what is read from here on goes on with these nodes
pub record SoFar (shape : Shape) (total : NodesRead) (front : List Node) (stack : List ShipRanges) (parts : Parts) : Type 0 where
  pub waiting : List Branch
  pub after : waiting ≡ waiting_from ([] ∷ []) front
  pub ranges : stack ≡ map (ranges_of shape) waiting
  pub told : prefixed front (nodes_at shape (2 + length front) waiting parts) ≡ total

pub begun : (shape : Shape) (stack : List ShipRanges) (parts : Parts) → stack ≡ replicate shape.ships (0, shape.slots - 1) ∷ [] → SoFar shape (nodes_at shape 2 ([] ∷ []) parts) [] stack parts
begun shape stack parts e = record { waiting = [] ∷ []; after = refl; ranges = e; told = nothing_before (nodes_at shape 2 ([] ∷ []) parts) }

-- ---- where a branch waits

record Waits (shape : Shape) (waiting : List Branch) (ranges : ShipRanges) : Type 0 where
  branch : Branch
  later : List Branch
  is : waiting ≡ branch ∷ later
  same : ranges ≡ ranges_of shape branch

first_waits : (shape : Shape) (waiting : List Branch) (ranges : ShipRanges) → slice_get (map (ranges_of shape) waiting) 0 ≡ Some ranges → Waits shape waiting ranges
first_waits shape [] ranges e = absurd cc
first_waits shape (branch ∷ later) ranges e = record { branch = branch; later = later; is = refl; same = sym (same_Some (ranges_of shape branch) ranges e) }

none_waits : (shape : Shape) (waiting : List Branch) → slice_get (map (ranges_of shape) waiting) 0 ≡ None → waiting ≡ []
none_waits shape [] e = refl
none_waits shape (branch ∷ later) e = absurd cc

waits_here : (shape : Shape) (total : NodesRead) (front : List Node) (stack : List ShipRanges) (parts : Parts) (ranges : ShipRanges) → (s : SoFar shape total front stack parts) → slice_get stack 0 ≡ Some ranges → Waits shape s.waiting ranges
waits_here shape total front stack parts ranges s e = first_waits shape s.waiting ranges (ap (λ (o : List ShipRanges). slice_get o 0) (sym s.ranges) ∙ e)

-- the first ranges are those of all ships
pub each_range_here : (shape : Shape) (total : NodesRead) (front : List Node) (stack : List ShipRanges) (parts : Parts) (ranges : ShipRanges) → SoFar shape total front stack parts → slice_get stack 0 ≡ Some ranges → length ranges ≡ shape.ships
each_range_here shape total front stack parts ranges s e =
    let w = waits_here shape total front stack parts ranges s e in
    ap length w.same ∙ each_range shape w.branch

-- a node that fits the first ranges names one of them
named : (shape : Shape) (ranges : ShipRanges) (stack : List ShipRanges) (node : Node) → length ranges ≡ shape.ships → node_fits shape ranges node ≡ true → NamesRange node (ranges ∷ stack)
named shape ranges stack (Fork ship slot) each fits =
    let lit = (and_parts (lit_fits shape (AtOrAfter ship slot)) (is_inside ranges ship slot) fits).0 in
    let parts = and_parts (nat_lt ship shape.ships) (nat_le 1 slot && nat_lt slot shape.slots) lit in
    let in' : ship < shape.ships = ltb-true _ _ parts.0 in
    let some : 1 ≤ slot = leb-true _ _ (and_parts (nat_le 1 slot) (nat_lt slot shape.slots) parts.1).0 in
    (omega (arith, each, in'), some)
named shape ranges stack Part each fits = tt

named_first : (shape : Shape) (stack : List ShipRanges) (ranges : ShipRanges) (node : Node) → slice_get stack 0 ≡ Some ranges → length ranges ≡ shape.ships → node_fits shape ranges node ≡ true → NamesRange node stack
named_first shape [] ranges node first each fits = absurd cc
named_first shape (own ∷ stack) ranges node first each fits =
    let same : ranges ≡ own = sym (same_Some own ranges first) in
    named shape own stack node (ap length (sym same) ∙ each) (ap (λ (r : ShipRanges). node_fits shape r node) (sym same) ∙ fits)

pub named_here : (shape : Shape) (total : NodesRead) (front : List Node) (stack : List ShipRanges) (parts rest : Parts) (ranges : ShipRanges) (node : Node) → SoFar shape total front stack parts → slice_get stack 0 ≡ Some ranges
    → node_at shape (2 + length front) ranges parts ≡ Ok (node, rest) → NamesRange node stack
named_here shape total front stack parts rest ranges node s first e =
    named_first shape stack ranges node first (each_range_here shape total front stack parts ranges s first) (node_read shape (2 + length front) ranges parts (node, rest) e).fits

-- ---- a node more, a fault, the end

step : (shape : Shape) (number : ℕ) (branch : Branch) (waiting : List Branch) (parts : Parts) (node : Node) (rest : Parts) → node_at shape number (ranges_of shape branch) parts ≡ Ok (node, rest)
    → nodes_at shape number (branch ∷ waiting) parts ≡ (nodes_at shape (number + 1) (waiting_after node (branch ∷ waiting)) rest >>= after_more node)
unfolding nodes_at
step shape number branch waiting [] node rest e =
    let none = node_read shape number (ranges_of shape branch) [] (node, rest) e in
    absurd (no_line none.line rest none.at)
  where
    no_line : (line : List ℕ) (rest : Parts) → [] ≡ line ∷ rest → ⊥
    no_line line rest h = cc
step shape number branch waiting (line ∷ parts) node rest e =
    let same = rest_is shape (ranges_of shape branch) line parts node rest (node_read shape number (ranges_of shape branch) (line ∷ parts) (node, rest) e) in
    rw e (ap (λ (ps : Parts). nodes_at shape (number + 1) (waiting_after node (branch ∷ waiting)) ps >>= after_more node) same)

stopped : (shape : Shape) (number : ℕ) (branch : Branch) (waiting : List Branch) (parts : Parts) (fault : MalformedLine SplitWord) → node_at shape number (ranges_of shape branch) parts ≡ Err fault → 1 ≤ length parts
    → nodes_at shape number (branch ∷ waiting) parts ≡ Err fault
unfolding nodes_at
stopped shape number branch waiting [] fault e some = absurd (omega (arith, some))
stopped shape number branch waiting (line ∷ parts) fault e some = rw e refl

pub one_more : (shape : Shape) (total : NodesRead) (front more : List Node) (stack stack' : List ShipRanges) (parts rest : Parts) (ranges : ShipRanges) (node : Node) → SoFar shape total front stack parts → slice_get stack 0 ≡ Some ranges
    → node_at shape (2 + length front) ranges parts ≡ Ok (node, rest) → more ≡ front ++ node ∷ [] → stack' ≡ open_after node stack → SoFar shape total more stack' rest
one_more shape total front more stack stack' parts rest ranges node s first e grown passed =
    let w = waits_here shape total front stack parts ranges s first in
    let e' : node_at shape (2 + length front) (ranges_of shape w.branch) parts ≡ Ok (node, rest) = subst (λ r. node_at shape (2 + length front) r parts ≡ Ok (node, rest)) w.same e in
    let read = node_read shape (2 + length front) (ranges_of shape w.branch) parts (node, rest) e' in
    let next : List Branch = waiting_after node (w.branch ∷ w.later) in
    let n : (2 + length front) + 1 ≡ 2 + (length front + 1) = omega arith in
    let size : length more ≡ length front + 1 = ap length grown ∙ length_push front node in
    let told : prefixed front (nodes_at shape (2 + length front) s.waiting parts) ≡ prefixed (front ++ node ∷ []) (nodes_at shape (2 + (length front + 1)) next rest) =
    ap (λ (w : List Branch). prefixed front (nodes_at shape (2 + length front) w parts)) w.is
    ∙ ap (prefixed front) (step shape (2 + length front) w.branch w.later parts node rest e')
    ∙ regroup front node (nodes_at shape ((2 + length front) + 1) next rest)
    ∙ ap (λ (m : ℕ). prefixed (front ++ node ∷ []) (nodes_at shape m next rest)) n in
    record {
      waiting = next;
      after = ap (waiting_after node) (sym w.is ∙ s.after) ∙ (sym (waiting_push ([] ∷ []) front node) ∙ ap (waiting_from ([] ∷ [])) (sym grown));
      ranges = passed ∙ (ap (open_after node) (s.ranges ∙ ap (map (ranges_of shape)) w.is) ∙ open_follows shape node (w.branch ∷ w.later) read.fits);
      told = rw (size, grown) (sym told ∙ s.told);
    }

pub faulty : (fault : LineFault SplitWord) (shape : Shape) (total : NodesRead) (front : List Node) (stack : List ShipRanges) (bytes : List ℕ) (ranges : ShipRanges) → SoFar shape total front stack (parts_of 10 bytes) → slice_get stack 0 ≡ Some ranges
    → TextReadFails fault (node_at shape (2 + length front) ranges (parts_of 10 bytes)) → TextReadFails fault total
faulty faults.NoMemory shape total front stack bytes ranges s first e = tt
faulty (faults.Line number word) shape total front stack bytes ranges s first e =
    let w = waits_here shape total front stack (parts_of 10 bytes) ranges s first in
    let parts = has_part (λ b. b == 10) bytes in
    let some : 1 ≤ length (parts_of 10 bytes) = rw parts.2 (omega arith) in
    let e' : node_at shape (2 + length front) (ranges_of shape w.branch) (parts_of 10 bytes) ≡ Err (record { number = number; word = word }) = subst (λ r. node_at shape (2 + length front) r (parts_of 10 bytes) ≡ Err (record { number = number; word = word })) w.same e in
    sym s.told
    ∙ ap (λ (w : List Branch). prefixed front (nodes_at shape (2 + length front) w (parts_of 10 bytes))) w.is
    ∙ ap (prefixed front) (stopped shape (2 + length front) w.branch w.later (parts_of 10 bytes) (record { number = number; word = word }) e' some)

done : (shape : Shape) (number : ℕ) (parts : Parts) → 1 ≤ length parts → nodes_at shape number [] parts ≡ Ok ([], parts)
unfolding nodes_at
done shape number [] some = absurd (omega (arith, some))
done shape number (line ∷ parts) some = refl

pub all_read : (shape : Shape) (total : NodesRead) (front : List Node) (stack : List ShipRanges) (bytes : List ℕ) → SoFar shape total front stack (parts_of 10 bytes) → slice_get stack 0 ≡ None → total ≡ Ok (front, parts_of 10 bytes)
all_read shape total front stack bytes s none =
    let ended = none_waits shape s.waiting (ap (λ (o : List ShipRanges). slice_get o 0) (sym s.ranges) ∙ none) in
    let parts = has_part (λ b. b == 10) bytes in
    let some : 1 ≤ length (parts_of 10 bytes) = rw parts.2 (omega arith) in
    sym s.told
    ∙ ap (λ (w : List Branch). prefixed front (nodes_at shape (2 + length front) w (parts_of 10 bytes))) ended
    ∙ ap (prefixed front) (done shape (2 + length front) (parts_of 10 bytes) some)
    ∙ ap (λ (ns : List Node). Ok (ns, parts_of 10 bytes)) (append-nil front)

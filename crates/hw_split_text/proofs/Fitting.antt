-- What is known of a node that was read, and of all of them.
use Rattle.std.proofs.Common.{◌≡◌, ℕ, ◌+◌, ◌-◌, Bool, true, false, cond, List, [], ◌∷◌, Option, Some, None, Result, Ok, bytes_eq, codes, refl, ap, subst}
use Rattle.std.proofs.lemmas.Option.{same_Some, cond_some}
use Rattle.hw_lemmas.specs.Operators.{◌>>=◌}
use Rattle.hw_model.specs.declared.shape.Shape.{Shape}
use Rattle.hw_plan_texts.specs.Reading.{MalformedLine, formed_line}
use Rattle.hw_plan_texts.specs.Slots.{slot_form}
use Rattle.hw_plan_texts.proofs.Reading.{bind_ok, formed_ok}
use Rattle.hw_text.specs.Numbers.{number_from_to}
use Rattle.hw_text.specs.Parts.{words_of}
use Rattle.hw_split_text.specs.declared.fault.SplitWord.{SplitWord}
use Rattle.hw_split_text.specs.declared.fault.SplitWord.TheVariants as words
use Rattle.hw_split_text.specs.declared.node.Node.{Node}
use Rattle.hw_split_text.specs.declared.node.Node.TheVariants.{Fork, Part}
use Rattle.hw_split_text.specs.Splits.{Branch, waiting_after, fork_fits, node_fits, Completes}
use Rattle.hw_split_text.specs.Ranges.{ShipRanges, ranges_of}
use Rattle.hw_split_text.specs.Text.{fork_by, fork_words, part_words, node_words, node_form, node_at, nodes_at}

abbrev pub Parts : Type 0
Parts = List (List ℕ)

abbrev pub NodeRead : Type 0
NodeRead = Result (Node × Parts) (MalformedLine SplitWord)

abbrev pub NodesRead : Type 0
NodesRead = Result (List Node × Parts) (MalformedLine SplitWord)

-- ---- the form of a line

abbrev Fits : Shape → ShipRanges → Node → Type 0
Fits shape ranges node = node_fits shape ranges node ≡ true

fork_read : (shape : Shape) (ranges : ShipRanges) (ship slot : Option ℕ) (node : Node) → fork_by shape ranges ship slot ≡ Some node → Fits shape ranges node
fork_read shape ranges None slot node e = absurd cc
fork_read shape ranges (Some ship) None node e = absurd cc
fork_read shape ranges (Some ship) (Some slot) node e =
    let taken = cond_some (fork_fits shape ranges ship slot) (Fork ship slot) node e in
    subst (Fits shape ranges) taken.1 taken.0

fork_words_read : (shape : Shape) (ranges : ShipRanges) (words : Parts) (node : Node) → fork_words shape ranges words ≡ Some node → Fits shape ranges node
fork_words_read shape ranges [] node e = absurd cc
fork_words_read shape ranges (ship ∷ []) node e = absurd cc
fork_words_read shape ranges (ship ∷ slot ∷ []) node e = fork_read shape ranges (number_from_to 0 (shape.ships - 1) ship) (slot_form shape.slots slot) node e
fork_words_read shape ranges (ship ∷ slot ∷ more ∷ words) node e = absurd cc

part_words_read : (shape : Shape) (ranges : ShipRanges) (words : Parts) (node : Node) → part_words words ≡ Some node → Fits shape ranges node
part_words_read shape ranges [] node e = subst (Fits shape ranges) (same_Some Part node e) refl
part_words_read shape ranges (word ∷ words) node e = absurd cc

by_key : (s p : Bool) (a b : Option Node) (node : Node) (P : Node → Type 0) → (a ≡ Some node → P node) → (b ≡ Some node → P node) → cond s a (cond p b None) ≡ Some node → P node
by_key true p a b node P first second e = first e
by_key false true a b node P first second e = second e
by_key false false a b node P first second e = absurd cc

words_read : (shape : Shape) (ranges : ShipRanges) (words : Parts) (node : Node) → node_words shape ranges words ≡ Some node → Fits shape ranges node
words_read shape ranges [] node e = absurd cc
words_read shape ranges (key ∷ words) node e =
    by_key (bytes_eq key (codes "s")) (bytes_eq key (codes "p")) (fork_words shape ranges words) (part_words words) node (Fits shape ranges)
    (fork_words_read shape ranges words node) (part_words_read shape ranges words node) e

-- ---- a line

pub record ReadAs (shape : Shape) (ranges : ShipRanges) (parts : Parts) (node : Node) (rest : Parts) : Type 0 where
  pub line : List ℕ
  pub at : parts ≡ line ∷ rest
  pub form : node_form shape ranges line ≡ Some node
  pub fits : node_fits shape ranges node ≡ true

abbrev pub with_rest : Parts → Node → NodeRead
with_rest rest node = Ok (node, rest)

pair_same : (a b : Node × Parts) → ◌≡◌ {A = NodeRead} (Ok a) (Ok b) → a ≡ b
pair_same a b e = cc

pub node_read : (shape : Shape) (number : ℕ) (ranges : ShipRanges) (parts : Parts) (read : Node × Parts) → node_at shape number ranges parts ≡ Ok read → ReadAs shape ranges parts read.0 read.1
unfolding node_at
node_read shape number ranges [] read e = absurd cc
node_read shape number ranges (line ∷ []) read e = absurd cc
node_read shape number ranges (line ∷ next ∷ parts) read e =
    let node = bind_ok (formed_line number words.Node (node_form shape ranges line)) (with_rest (next ∷ parts)) read e in
    let form = formed_ok number words.Node (node_form shape ranges line) node.value node.is in
    let same : (node.value, next ∷ parts) ≡ read = pair_same (node.value, next ∷ parts) read node.then' in
    subst (λ (r : Node × Parts). ReadAs shape ranges (line ∷ next ∷ parts) r.0 r.1) same
    (record { line = line; at = refl; form = form; fits = words_read shape ranges (words_of line) node.value form })

-- the parts after a line's node are those after the line
pub rest_is : (shape : Shape) (ranges : ShipRanges) (line : List ℕ) (parts : Parts) (node : Node) (rest : Parts) → ReadAs shape ranges (line ∷ parts) node rest → parts ≡ rest
rest_is shape ranges line parts node rest r = let at : line ∷ parts ≡ r.line ∷ rest = r.at in cc

-- ---- all lines

abbrev pub after_more : Node → List Node × Parts → NodesRead
after_more node more = Ok (node ∷ more.0, more.1)

abbrev pub after_node : Shape → ℕ → List Branch → Parts → Node × Parts → NodesRead
after_node shape number waiting parts node = nodes_at shape (number + 1) (waiting_after node.0 waiting) parts >>= after_more node.0

pub nodes_same : (a b : List Node × Parts) → ◌≡◌ {A = NodesRead} (Ok a) (Ok b) → a ≡ b
nodes_same a b e = cc

-- nodes that were read are those for which the branches wait
pub nodes_complete : (shape : Shape) (number : ℕ) (waiting : List Branch) (parts : Parts) (read : List Node × Parts) → nodes_at shape number waiting parts ≡ Ok read → Completes shape waiting read.0
unfolding nodes_at
nodes_complete shape number waiting [] read e = absurd cc
nodes_complete shape number [] (line ∷ parts) read e =
    let none = ap (λ (r : List Node × Parts). r.0) (nodes_same ([], line ∷ parts) read e) in
    subst (Completes shape []) none refl
nodes_complete shape number (branch ∷ waiting) (line ∷ parts) read e =
    let node = bind_ok (node_at shape number (ranges_of shape branch) (line ∷ parts)) (after_node shape number (branch ∷ waiting) parts) read e in
    let more = bind_ok (nodes_at shape (number + 1) (waiting_after node.value.0 (branch ∷ waiting)) parts) (after_more node.value.0) read node.then' in
    let all = ap (λ (r : List Node × Parts). r.0) (nodes_same (node.value.0 ∷ more.value.0, more.value.1) read more.then') in
    let first = node_read shape number (ranges_of shape branch) (line ∷ parts) node.value node.is in
    subst (Completes shape (branch ∷ waiting)) all (first.fits, nodes_complete shape (number + 1) (waiting_after node.value.0 (branch ∷ waiting)) parts more.value more.is)

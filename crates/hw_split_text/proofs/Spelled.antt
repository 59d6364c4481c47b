-- A text that reads as a split is the one that is written.
use Rattle.std.proofs.Common.{◌≡◌, ℕ, ◌+◌, ◌-◌, ◌≤◌, Bool, true, false, cond, List, [], ◌∷◌, ◌++◌, map, Option, Some, None, Result, Ok, length, bytes_eq, codes, decimal, refl, sym, ap, subst, ◌∙◌, append_assoc, arith}
use Rattle.std.proofs.Math.Path.{ap₂}
use Rattle.std.proofs.lemmas.Option.{same_Some, cond_some}
use Rattle.hw_lemmas.specs.Operators.{◌>>=◌}
use Rattle.hw_model.specs.declared.shape.Shape.{Shape}
use Rattle.hw_model.specs.Limits.{ShapeFits}
use Rattle.hw_plan_texts.specs.Reading.{MalformedLine, malformed_line, formed_line_at, only_at, ended_at}
use Rattle.hw_plan_texts.specs.Slots.{slot_form}
use Rattle.hw_plan_texts.proofs.Reading.{bind_ok, formed_ok}
use Rattle.hw_text.specs.Numbers.{number_from_to}
use Rattle.hw_text.specs.Parts.{words_of, first_part, at_end, parts_of}
use Rattle.hw_text.proofs.Joins.{is_ended_lines}
use Rattle.hw_text.proofs.Signs.{from_to_is}
use Rattle.hw_text.proofs.Spelled.{is_spelled}
use Rattle.hw_flat.proofs.TextWords.{same_text, rejoined}
use Rattle.hw_split_text.specs.declared.fault.SplitWord.{SplitWord}
use Rattle.hw_split_text.specs.declared.fault.SplitWord.TheVariants as words
use Rattle.hw_split_text.specs.declared.node.Node.{Node}
use Rattle.hw_split_text.specs.declared.node.Node.TheVariants.{Fork, Part}
use Rattle.hw_split_text.specs.Splits.{Branch, waiting_after, fork_fits}
use Rattle.hw_split_text.specs.Ranges.{ShipRanges, ranges_of}
use Rattle.hw_split_text.specs.Text.{fork_by, fork_words, part_words, node_words, node_at, nodes_at, split_of}
use Rattle.hw_split_text.specs.Laws.{OneSplitText}
use Rattle.hw_split_text.proofs.Fitting.{Parts, node_read, after_more, after_node, nodes_same}
use Rattle.hw_split_text.proofs.Written.{node_line, split_lines, text_is}

-- ---- words

abbrev node_parts : Node → Parts
node_parts (Fork ship slot) = codes "s" ∷ decimal ship ∷ decimal slot ∷ []
node_parts Part = codes "p" ∷ []

-- the words are those of the node's line
abbrev Spells : Parts → Node → Type 0
Spells words node = words ≡ node_parts node

fork_spelled : (shape : Shape) (ranges : ShipRanges) (first second : List ℕ) (ship slot : Option ℕ) (node : Node) → ((n : ℕ) → ship ≡ Some n → first ≡ decimal n) → ((n : ℕ) → slot ≡ Some n → second ≡ decimal n)
    → fork_by shape ranges ship slot ≡ Some node → Spells (codes "s" ∷ first ∷ second ∷ []) node
fork_spelled shape ranges first second None slot node one two e = absurd cc
fork_spelled shape ranges first second (Some ship) None node one two e = absurd cc
fork_spelled shape ranges first second (Some ship) (Some slot) node one two e =
    let taken = cond_some (fork_fits shape ranges ship slot) (Fork ship slot) node e in
    subst (Spells (codes "s" ∷ first ∷ second ∷ [])) taken.1 (ap₂ (λ (a b : List ℕ). codes "s" ∷ a ∷ b ∷ []) (one ship refl) (two slot refl))

fork_words_spelled : (shape : Shape) (ranges : ShipRanges) (words : Parts) (node : Node) → ShapeFits shape → fork_words shape ranges words ≡ Some node → Spells (codes "s" ∷ words) node
fork_words_spelled shape ranges [] node limits e = absurd cc
fork_words_spelled shape ranges (ship ∷ []) node limits e = absurd cc
fork_words_spelled shape ranges (ship ∷ slot ∷ []) node limits e =
    let few : shape.ships ≤ 40 = limits.few_ships in
    let few' : shape.slots ≤ 513 = omega (arith, limits.few_slots) in
    fork_spelled shape ranges ship slot (number_from_to 0 (shape.ships - 1) ship) (slot_form shape.slots slot) node
    (λ n h. (from_to_is 0 (shape.ships - 1) ship n (omega (arith, few)) h).0)
    (λ n h. (is_spelled (shape.slots - 1) slot n (omega (arith, few')) h).0)
    e
fork_words_spelled shape ranges (ship ∷ slot ∷ more ∷ words) node limits e = absurd cc

part_words_spelled : (words : Parts) (node : Node) → part_words words ≡ Some node → Spells (codes "p" ∷ words) node
part_words_spelled [] node e = subst (Spells (codes "p" ∷ [])) (same_Some Part node e) refl
part_words_spelled (word ∷ words) node e = absurd cc

by_key : (key : List ℕ) (words : Parts) (s p : Bool) (a b : Option Node) (node : Node) → (s ≡ true → key ≡ codes "s") → (p ≡ true → key ≡ codes "p") → (a ≡ Some node → Spells (codes "s" ∷ words) node) → (b ≡ Some node → Spells (codes "p" ∷ words) node)
    → cond s a (cond p b None) ≡ Some node → Spells (key ∷ words) node
by_key key words true p a b node is_s is_p first second e = ap (λ (k : List ℕ). k ∷ words) (is_s refl) ∙ first e
by_key key words false true a b node is_s is_p first second e = ap (λ (k : List ℕ). k ∷ words) (is_p refl) ∙ second e
by_key key words false false a b node is_s is_p first second e = absurd cc

words_spelled : (shape : Shape) (ranges : ShipRanges) (words : Parts) (node : Node) → ShapeFits shape → node_words shape ranges words ≡ Some node → Spells words node
words_spelled shape ranges [] node limits e = absurd cc
words_spelled shape ranges (key ∷ words) node limits e =
    by_key key words (bytes_eq key (codes "s")) (bytes_eq key (codes "p")) (fork_words shape ranges words) (part_words words) node
    (same_text key (codes "s")) (same_text key (codes "p"))
    (fork_words_spelled shape ranges words node limits) (part_words_spelled words node) e

spelled : (node : Node) (line : List ℕ) → words_of line ≡ node_parts node → line ≡ node_line node
spelled (Fork ship slot) line e = rejoined 32 line (node_parts (Fork ship slot)) e
spelled Part line e = rejoined 32 line (node_parts Part) e

-- ---- lines

node_is : (shape : Shape) (number : ℕ) (ranges : ShipRanges) (parts : Parts) (read : Node × Parts) → ShapeFits shape → node_at shape number ranges parts ≡ Ok read → parts ≡ node_line read.0 ∷ read.1
node_is shape number ranges parts read limits e =
    let r = node_read shape number ranges parts read e in
    r.at ∙ ap (λ (l : List ℕ). l ∷ read.1) (spelled read.0 r.line (words_spelled shape ranges (words_of r.line) read.0 limits r.form))

tail_same : (a b : List ℕ) (xs ys : Parts) → a ∷ xs ≡ b ∷ ys → xs ≡ ys
tail_same a b xs ys e = cc

nodes_are : (shape : Shape) (number : ℕ) (waiting : List Branch) (parts : Parts) (read : List Node × Parts) → ShapeFits shape → nodes_at shape number waiting parts ≡ Ok read → parts ≡ map node_line read.0 ++ read.1
unfolding nodes_at
nodes_are shape number waiting [] read limits e = absurd cc
nodes_are shape number [] (line ∷ parts) read limits e = ap (λ (r : List Node × Parts). map node_line r.0 ++ r.1) (nodes_same ([], line ∷ parts) read e)
nodes_are shape number (branch ∷ waiting) (line ∷ parts) read limits e =
    let node = bind_ok (node_at shape number (ranges_of shape branch) (line ∷ parts)) (after_node shape number (branch ∷ waiting) parts) read e in
    let more = bind_ok (nodes_at shape (number + 1) (waiting_after node.value.0 (branch ∷ waiting)) parts) (after_more node.value.0) read node.then' in
    let is = node_is shape number (ranges_of shape branch) (line ∷ parts) node.value limits node.is in
    let later : parts ≡ node.value.1 = tail_same line (node_line node.value.0) parts node.value.1 is in
    is
    ∙ ap (λ (ps : Parts). node_line node.value.0 ∷ ps) (sym later ∙ nodes_are shape (number + 1) (waiting_after node.value.0 (branch ∷ waiting)) parts more.value limits more.is)
    ∙ ap (λ (r : List Node × Parts). map node_line r.0 ++ r.1) (nodes_same (node.value.0 ∷ more.value.0, more.value.1) read more.then')

-- ---- the text

first_is : (parts : Parts) (read : List ℕ × Parts) → first_part parts ≡ Some read → parts ≡ read.0 ∷ read.1
first_is [] read e = absurd cc
first_is (x ∷ []) read e = absurd cc
first_is (x ∷ y ∷ more) read e = ap (λ (r : List ℕ × Parts). r.0 ∷ r.1) (same_Some (x, y ∷ more) read e)

line_is : (number : ℕ) (word : SplitWord) (parts : Parts) (read : List ℕ × Parts) → formed_line_at number word parts ≡ Ok read → parts ≡ read.0 ∷ read.1
line_is number word parts read e = first_is parts read (formed_ok number word (first_part parts) read e)

by_test : (b : Bool) (number : ℕ) (word : SplitWord) (x y : Parts) → cond b (Ok x) (malformed_line number word) ≡ Ok y → (b ≡ true) × (x ≡ y)
by_test true number word x y e = (refl, cc)
by_test false number word x y e = absurd cc

abbrev after_only : ℕ → SplitWord → List ℕ → List ℕ × Parts → Result Parts (MalformedLine SplitWord)
after_only number word text line = cond (bytes_eq line.0 text) (Ok line.1) (malformed_line number word)

only_is : (number : ℕ) (word : SplitWord) (text : List ℕ) (parts rest : Parts) → only_at number word text parts ≡ Ok rest → parts ≡ text ∷ rest
only_is number word text parts rest e =
    let line = bind_ok (formed_line_at number word parts) (after_only number word text) rest e in
    let t = by_test (bytes_eq line.value.0 text) number word line.value.1 rest line.then' in
    line_is number word parts line.value line.is ∙ ap₂ ◌∷◌ (same_text line.value.0 text t.0) t.1

empty_is : (parts : Parts) → at_end parts ≡ true → parts ≡ [] ∷ []
empty_is [] e = absurd cc
empty_is ([] ∷ []) e = refl
empty_is ((b ∷ bs) ∷ []) e = absurd cc
empty_is (x ∷ y ∷ more) e = absurd (no_more x y more e)
  where
    no_more : (x y : List ℕ) (more : Parts) → at_end (x ∷ y ∷ more) ≡ true → ⊥
    no_more [] y more e = cc
    no_more (b ∷ bs) y more e = cc

ended_is : (number : ℕ) (word : SplitWord) (read nodes : List Node) (parts : Parts) → ended_at number word read parts ≡ Ok nodes → (read ≡ nodes) × (parts ≡ [] ∷ [])
ended_is number word read nodes parts e = by_end (at_end parts) refl e
  where
    by_end : (b : Bool) → at_end parts ≡ b → cond b (Ok read) (malformed_line number word) ≡ Ok nodes → (read ≡ nodes) × (parts ≡ [] ∷ [])
    by_end true t h = (cc, empty_is parts t)
    by_end false t h = absurd cc

abbrev after_end : List Node → Parts → Result (List Node) (MalformedLine SplitWord)
after_end nodes rest = ended_at (3 + length nodes) words.Tail nodes rest

abbrev after_nodes : List Node × Parts → Result (List Node) (MalformedLine SplitWord)
after_nodes read = only_at (2 + length read.0) words.Tail (codes "end") read.1 >>= after_end read.0

abbrev after_header : Shape → Parts → Result (List Node) (MalformedLine SplitWord)
after_header shape first = nodes_at shape 2 ([] ∷ []) first >>= after_nodes

lines_are : (shape : Shape) (parts : Parts) (nodes : List Node) → ShapeFits shape → split_of shape parts ≡ Ok nodes → parts ≡ split_lines nodes ++ [] ∷ []
unfolding split_of
lines_are shape parts nodes limits e =
    let first = bind_ok (only_at 1 words.Header (codes "split 1") parts) (after_header shape) nodes e in
    let read = bind_ok (nodes_at shape 2 ([] ∷ []) first.value) after_nodes nodes first.then' in
    let rest = bind_ok (only_at (2 + length read.value.0) words.Tail (codes "end") read.value.1) (after_end read.value.0) nodes read.then' in
    let last = ended_is (3 + length read.value.0) words.Tail read.value.0 nodes rest.value rest.then' in
    let tail : read.value.1 ≡ codes "end" ∷ [] ∷ [] = only_is (2 + length read.value.0) words.Tail (codes "end") read.value.1 rest.value rest.is ∙ ap (λ (ps : Parts). codes "end" ∷ ps) last.1 in
    let body : first.value ≡ (map node_line read.value.0 ++ codes "end" ∷ []) ++ [] ∷ [] =
    nodes_are shape 2 ([] ∷ []) first.value read.value limits read.is
    ∙ ap (λ (ps : Parts). map node_line read.value.0 ++ ps) tail
    ∙ sym (append_assoc (map node_line read.value.0) (codes "end" ∷ []) ([] ∷ [])) in
    only_is 1 words.Header (codes "split 1") parts first.value first.is
    ∙ ap (λ (ps : Parts). codes "split 1" ∷ ps) body
    ∙ ap (λ (ns : List Node). split_lines ns ++ [] ∷ []) last.0

pub one_text : OneSplitText
one_text shape nodes bytes limits e = is_ended_lines (split_lines nodes) bytes (lines_are shape (parts_of 10 bytes) nodes limits e) ∙ sym (text_is nodes)

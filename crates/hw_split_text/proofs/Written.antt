-- A split that is written reads as itself.
use Rattle.std.proofs.Common.{◌≡◌, ℕ, ◌+◌, ◌-◌, ◌<◌, ◌≤◌, ◌^◌, ◌&&◌, nat_lt, nat_le, true, false, List, [], ◌∷◌, ◌++◌, map, Some, Ok, codes, decimal, refl, sym, ap, ◌∙◌, append_assoc, arith}
use Rattle.std.proofs.lemmas.Bool.{ltb-true, and_parts, and_from}
use Rattle.std.proofs.lemmas.List.Folds.{list_all-append}
use Rattle.std.specs.List.{list_all}
use Rattle.hw_model.specs.declared.lit.Lit.TheVariants.{AtOrAfter}
use Rattle.hw_model.specs.declared.shape.Shape.{Shape}
use Rattle.hw_model.specs.Limits.{ShapeFits}
use Rattle.hw_model.specs.Lits.{lit_fits}
use Rattle.hw_text.specs.Numbers.{is_digit}
use Rattle.hw_text.specs.Parts.{parts_of, words_of, lacks, spaced, ended_lines}
use Rattle.hw_text.proofs.Joins.{cut_joined, cut_ended}
use Rattle.hw_text.proofs.Signs.{from_to_reads}
use Rattle.hw_text.proofs.Spelled.{reads_back}
use Rattle.hw_flat.proofs.TextLacks.{number_lacks, joined_lacks}
use Rattle.hw_split_text.specs.declared.node.Node.{Node}
use Rattle.hw_split_text.specs.declared.node.Node.TheVariants.{Fork, Part}
use Rattle.hw_split_text.specs.Splits.{Branch, waiting_after, branch_room, is_inside, node_fits, Completes, IsSplit}
use Rattle.hw_split_text.specs.Ranges.{ShipRanges, ranges_of}
use Rattle.hw_split_text.specs.Text.{node_words, node_form, node_at, nodes_at, split_of}
use Rattle.hw_split_text.specs.Written.{node_written, nodes_written, written_split}
use Rattle.hw_split_text.specs.Laws.{WrittenSplitReads}
use Rattle.hw_split_text.proofs.Fitting.{Parts}

-- ---- the lines of the text

abbrev pub node_line : Node → List ℕ
node_line (Fork ship slot) = spaced (codes "s" ∷ decimal ship ∷ decimal slot ∷ [])
node_line Part = codes "p"

abbrev pub split_lines : List Node → Parts
split_lines nodes = codes "split 1" ∷ (map node_line nodes ++ codes "end" ∷ [])

node_is : (node : Node) (rest : List ℕ) → node_written node ++ rest ≡ node_line node ++ 10 ∷ rest
node_is (Fork ship slot) rest = ap (λ (xs : List ℕ). 115 ∷ 32 ∷ xs)
    (append_assoc (decimal ship) (32 ∷ (decimal slot ++ 10 ∷ [])) rest
    ∙ (ap (λ (xs : List ℕ). decimal ship ++ 32 ∷ xs) (append_assoc (decimal slot) (10 ∷ []) rest)
    ∙ sym (append_assoc (decimal ship) (32 ∷ decimal slot) (10 ∷ rest))))
node_is Part rest = refl

nodes_are : (nodes : List Node) → nodes_written nodes ++ codes "end\n" ≡ ended_lines (map node_line nodes ++ codes "end" ∷ [])
nodes_are [] = refl
nodes_are (node ∷ nodes) =
    append_assoc (node_written node) (nodes_written nodes) (codes "end\n")
    ∙ (node_is node (nodes_written nodes ++ codes "end\n")
    ∙ ap (λ (xs : List ℕ). node_line node ++ 10 ∷ xs) (nodes_are nodes))

pub text_is : (nodes : List Node) → written_split nodes ≡ ended_lines (split_lines nodes)
text_is nodes = ap (λ (xs : List ℕ). codes "split 1\n" ++ xs) (nodes_are nodes)

-- ---- a line

-- what a fork that fits says of its numbers
pub record ForkNumbers (shape : Shape) (ship slot : ℕ) : Type 0 where
  pub ship_in : ship < shape.ships
  pub slot_in : slot < shape.slots

pub fork_numbers : (shape : Shape) (ranges : ShipRanges) (ship slot : ℕ) → node_fits shape ranges (Fork ship slot) ≡ true → ForkNumbers shape ship slot
fork_numbers shape ranges ship slot fits =
    let lit = (and_parts (lit_fits shape (AtOrAfter ship slot)) (is_inside ranges ship slot) fits).0 in
    let parts = and_parts (nat_lt ship shape.ships) (nat_le 1 slot && nat_lt slot shape.slots) lit in
    record {
      ship_in = ltb-true _ _ parts.0;
      slot_in = ltb-true _ _ (and_parts (nat_le 1 slot) (nat_lt slot shape.slots) parts.1).1;
    }

fork_lacks : (c ship slot : ℕ) → lacks c (codes "s") ≡ true → is_digit c ≡ false → ship < 2 ^ 64 → slot < 2 ^ 64 → list_all (lacks c) (codes "s" ∷ decimal ship ∷ decimal slot ∷ []) ≡ true
fork_lacks c ship slot key other small too = and_from _ _ key (and_from _ _ (number_lacks c ship other small) (and_from _ _ (number_lacks c slot other too) refl))

node_back : (shape : Shape) (ranges : ShipRanges) (node : Node) → ShapeFits shape → node_fits shape ranges node ≡ true → node_form shape ranges (node_line node) ≡ Some node
node_back shape ranges (Fork ship slot) limits fits =
    let numbers = fork_numbers shape ranges ship slot fits in
    let few : shape.ships ≤ 40 = limits.few_ships in
    let few' : shape.slots ≤ 513 = omega (arith, limits.few_slots) in
    let words : words_of (node_line (Fork ship slot)) ≡ codes "s" ∷ decimal ship ∷ decimal slot ∷ [] =
    cut_joined 32 (codes "s" ∷ decimal ship ∷ decimal slot ∷ []) (omega arith) (fork_lacks 32 ship slot refl refl (omega (arith, numbers.ship_in, few)) (omega (arith, numbers.slot_in, few'))) in
    let read : node_words shape ranges (codes "s" ∷ decimal ship ∷ decimal slot ∷ []) ≡ Some (Fork ship slot) =
    rw (
      from_to_reads 0 (shape.ships - 1) ship (omega (arith, few)) (omega arith) (omega (arith, numbers.ship_in)),
      reads_back (shape.slots - 1) slot (omega (arith, few')) (omega (arith, numbers.slot_in)),
      fits,
    ) refl in
    ap (node_words shape ranges) words ∙ read
node_back shape ranges Part limits fits =
    let words : words_of (node_line Part) ≡ codes "p" ∷ [] = refl in
    ap (node_words shape ranges) words

-- ---- the lines in order

-- a list of lines that is not empty
abbrev Full : Parts → Type 0
Full parts = (x : List ℕ) × (more : Parts) × (parts ≡ x ∷ more)

full_after : (xs parts : Parts) → Full parts → Full (xs ++ parts)
full_after [] parts full = full
full_after (x ∷ xs) parts full = (x, xs ++ parts, refl)

one_back : (shape : Shape) (number : ℕ) (ranges : ShipRanges) (node : Node) (rest : Parts) → Full rest → ShapeFits shape → node_fits shape ranges node ≡ true → node_at shape number ranges (node_line node ∷ rest) ≡ Ok (node, rest)
unfolding node_at
one_back shape number ranges node rest full limits fits = rw (full.2, node_back shape ranges node limits fits) refl

ended : (shape : Shape) (number : ℕ) (waiting : List Branch) (rest : Parts) → Full rest → waiting ≡ [] → nodes_at shape number waiting rest ≡ Ok ([], rest)
unfolding nodes_at
ended shape number waiting rest full none = rw (none, full.2) refl

nodes_back : (shape : Shape) (number : ℕ) (waiting : List Branch) (nodes : List Node) (rest : Parts) → Full rest → ShapeFits shape → Completes shape waiting nodes → nodes_at shape number waiting (map node_line nodes ++ rest) ≡ Ok (nodes, rest)
unfolding nodes_at
nodes_back shape number waiting [] rest full limits c = ended shape number waiting rest full c
nodes_back shape number [] (node ∷ nodes) rest full limits c = absurd c.0
nodes_back shape number (branch ∷ waiting) (node ∷ nodes) rest full limits c =
    rw (
      one_back shape number (ranges_of shape branch) node (map node_line nodes ++ rest) (full_after (map node_line nodes) rest full) limits c.0,
      nodes_back shape (number + 1) (waiting_after node (branch ∷ waiting)) nodes rest full limits c.1,
    ) refl

lines_back : (shape : Shape) (nodes : List Node) → ShapeFits shape → IsSplit shape nodes → split_of shape (codes "split 1" ∷ (map node_line nodes ++ codes "end" ∷ [] ∷ [])) ≡ Ok nodes
unfolding split_of
lines_back shape nodes limits split =
    let tail : Parts = codes "end" ∷ [] ∷ [] in
    let full = full_after (map node_line nodes) tail (codes "end", [] ∷ [], refl) in
    let read : nodes_at shape 2 ([] ∷ []) (full.0 ∷ full.1) ≡ Ok (nodes, tail) = rw (sym full.2) (nodes_back shape 2 ([] ∷ []) nodes tail (codes "end", [] ∷ [], refl) limits split) in
    rw (full.2, read) refl

-- ---- no line has a line feed

node_lacks : (shape : Shape) (ranges : ShipRanges) (node : Node) → ShapeFits shape → node_fits shape ranges node ≡ true → lacks 10 (node_line node) ≡ true
node_lacks shape ranges (Fork ship slot) limits fits =
    let numbers = fork_numbers shape ranges ship slot fits in
    joined_lacks 10 32 (codes "s" ∷ decimal ship ∷ decimal slot ∷ []) refl (fork_lacks 10 ship slot refl refl (omega (arith, numbers.ship_in, limits.few_ships)) (omega (arith, numbers.slot_in, limits.few_slots)))
node_lacks shape ranges Part limits fits = refl

nodes_lack : (shape : Shape) (waiting : List Branch) (nodes : List Node) → ShapeFits shape → Completes shape waiting nodes → list_all (lacks 10) (map node_line nodes) ≡ true
nodes_lack shape waiting [] limits c = refl
nodes_lack shape [] (node ∷ nodes) limits c = absurd c.0
nodes_lack shape (branch ∷ waiting) (node ∷ nodes) limits c =
    and_from _ _ (node_lacks shape (branch_room shape branch).ranges node limits c.0) (nodes_lack shape (waiting_after node (branch ∷ waiting)) nodes limits c.1)

lines_lack : (shape : Shape) (nodes : List Node) → ShapeFits shape → IsSplit shape nodes → list_all (lacks 10) (split_lines nodes) ≡ true
lines_lack shape nodes limits split =
    and_from _ _ refl (list_all-append (lacks 10) (map node_line nodes) (codes "end" ∷ []) ∙ and_from _ _ (nodes_lack shape ([] ∷ []) nodes limits split) refl)

-- ---- the text

pub written_reads : WrittenSplitReads
written_reads shape nodes limits split =
    let lines : parts_of 10 (written_split nodes) ≡ codes "split 1" ∷ (map node_line nodes ++ codes "end" ∷ [] ∷ []) =
    ap (parts_of 10) (text_is nodes)
    ∙ (cut_ended (split_lines nodes) (lines_lack shape nodes limits split)
    ∙ ap (λ (ps : Parts). codes "split 1" ∷ ps) (append_assoc (map node_line nodes) (codes "end" ∷ []) ([] ∷ []))) in
    ap (split_of shape) lines ∙ lines_back shape nodes limits split

-- Elements that have begun and not ended yet, innermost last.
use Rattle.std.proofs.Common.{◌≡◌, ◌++◌, ◌∙◌, ◌&&◌, ℕ, Bool, true, List, [], ◌∷◌, codes, refl, ap, sym, subst, append_assoc, append-nil}
use Rattle.std.proofs.lemmas.Bool.{and_parts, and_from}
use Rattle.hw_chart_svg.specs.Trees.{Attribute, Node, Nodes, words, element, no_more, node, node_text, nodes_text, attributes_text}
use Rattle.hw_chart_laws.proofs.Writing.{Tags}
use Rattle.hw_chart_laws.specs.Trees.{are_attributes, are_trees, is_element_name, is_tree}

pub data Open : Type 0 where
  whole : Nodes → Open
  within : Open → List ℕ → List Attribute → Nodes → Open

-- the beginning of an element
abbrev pub start_text : List ℕ → List Attribute → List ℕ
start_text tag attributes = codes "<" ++ (tag ++ (attributes_text attributes ++ codes ">"))

-- the end of an element
abbrev pub end_text : List ℕ → List ℕ
end_text tag = codes "</" ++ (tag ++ codes ">")

abbrev pub open_text : Open → List ℕ
open_text (whole inside) = nodes_text inside
open_text (within o tag attributes inside) = open_text o ++ (start_text tag attributes ++ nodes_text inside)

abbrev pub open_tags : Open → Tags
open_tags (whole inside) = []
open_tags (within o tag attributes inside) = tag ∷ open_tags o

abbrev pub are_open : Open → Bool
are_open (whole inside) = are_trees inside
are_open (within o tag attributes inside) = are_open o && (is_element_name tag && (are_attributes attributes && are_trees inside))

-- what stands after what
abbrev pub chained : Nodes → Nodes → Nodes
chained no_more more = more
chained (node first rest) more = node first (chained rest more)

chained_text : (a b : Nodes) → nodes_text (chained a b) ≡ nodes_text a ++ nodes_text b
chained_text no_more b = refl
chained_text (node first rest) b = ap (λ (l : List ℕ). node_text first ++ l) (chained_text rest b) ∙ sym (append_assoc (node_text first) (nodes_text rest) (nodes_text b))

chained_trees : (a b : Nodes) → are_trees a ≡ true → are_trees b ≡ true → are_trees (chained a b) ≡ true
chained_trees no_more b p q = q
chained_trees (node first rest) b p q = let parts = and_parts (is_tree first) _ p in and_from (is_tree first) _ parts.0 (chained_trees rest b parts.1 q)

abbrev more_in : Open → Nodes → Open
more_in (whole inside) more = whole (chained inside more)
more_in (within o tag attributes inside) more = within o tag attributes (chained inside more)

more_text : (o : Open) (more : Nodes) → open_text o ++ nodes_text more ≡ open_text (more_in o more)
more_text (whole inside) more = sym (chained_text inside more)
more_text (within o tag attributes inside) more =
    append_assoc (open_text o) (start_text tag attributes ++ nodes_text inside) (nodes_text more)
    ∙ ap (λ (l : List ℕ). open_text o ++ l) (append_assoc (start_text tag attributes) (nodes_text inside) (nodes_text more) ∙ ap (λ (l : List ℕ). start_text tag attributes ++ l) (sym (chained_text inside more)))

more_open : (o : Open) (more : Nodes) → are_open o ≡ true → are_trees more ≡ true → are_open (more_in o more) ≡ true
more_open (whole inside) more p q = chained_trees inside more p q
more_open (within o tag attributes inside) more p q =
    let a = and_parts (are_open o) _ p in
    let b = and_parts (is_element_name tag) _ a.1 in
    let c = and_parts (are_attributes attributes) _ b.1 in
    and_from (are_open o) _ a.0 (and_from (is_element_name tag) _ b.0 (and_from (are_attributes attributes) _ c.0 (chained_trees inside more c.1 q)))

more_tags : (o : Open) (more : Nodes) → open_tags (more_in o more) ≡ open_tags o
more_tags (whole inside) more = refl
more_tags (within o tag attributes inside) more = refl

-- where a text leads to from open elements
pub record Reached (o : Open) (text : List ℕ) (tags : Tags) : Type 0 where
  pub at : Open
  pub sound : are_open at ≡ true
  pub named : open_tags at ≡ tags
  pub same : open_text o ++ text ≡ open_text at

-- from elements with some tags a text leads to elements with others
pub record Leads (before : Tags) (text : List ℕ) (after : Tags) : Type 0 where
  pub go : (o : Open) → are_open o ≡ true → open_tags o ≡ before → Reached o text after

pub onward : {a b c : Tags} {s t : List ℕ} → Leads a s b → Leads b t c → Leads a (s ++ t) c
onward {s = s} {t = t} p q = record {
  go = λ o sound named.
      let first = p.go o sound named in
      let second = q.go first.at first.sound first.named in
      record {
        at = second.at;
        sound = second.sound;
        named = second.named;
        same = sym (append_assoc (open_text o) s t) ∙ ap (λ (l : List ℕ). l ++ t) first.same ∙ second.same;
      };
}

pub grows : {a : Tags} (more : Nodes) → are_trees more ≡ true → Leads a (nodes_text more) a
grows more trees = record {
  go = λ o sound named. record {
    at = more_in o more;
    sound = more_open o more sound trees;
    named = more_tags o more ∙ named;
    same = more_text o more;
  };
}

pub begins : {a : Tags} (tag : List ℕ) (attributes : List Attribute) (inside : Nodes) → is_element_name tag ≡ true → are_attributes attributes ≡ true → are_trees inside ≡ true → Leads a (start_text tag attributes ++ nodes_text inside) (tag ∷ a)
begins tag attributes inside names attr trees = record {
  go = λ o sound named. record {
    at = within o tag attributes inside;
    sound = and_from (are_open o) _ sound (and_from (is_element_name tag) _ names (and_from (are_attributes attributes) _ attr trees));
    named = ap (λ (l : Tags). tag ∷ l) named;
    same = refl;
  };
}

-- an element with something in it
abbrev pub ended : List ℕ → List Attribute → Nodes → Node
ended tag attributes inside = element tag attributes (node (words []) inside)

ended_text : (before tag : List ℕ) (attributes : List Attribute) (inside : Nodes) → (before ++ (start_text tag attributes ++ nodes_text inside)) ++ end_text tag ≡ before ++ (node_text (ended tag attributes inside) ++ [])
ended_text before tag attributes inside = simp (append_assoc, append-nil)

closing : (o : Open) (tag : List ℕ) (tags : Tags) → are_open o ≡ true → open_tags o ≡ tag ∷ tags → Reached o (end_text tag) tags
closing (whole inside) tag tags sound e = absurd cc
closing (within o own attributes inside) tag tags sound e =
    let same : own ≡ tag = cc in
    let rest : open_tags o ≡ tags = cc in
    let a = and_parts (are_open o) _ sound in
    let more : Nodes = node (ended own attributes inside) no_more in
    record {
      at = more_in o more;
      sound = more_open o more a.0 (and_from (is_tree (ended own attributes inside)) _ a.1 refl);
      named = more_tags o more ∙ rest;
      same = ap (λ (l : List ℕ). (open_text o ++ (start_text own attributes ++ nodes_text inside)) ++ end_text l) (sym same) ∙ ended_text (open_text o) own attributes inside ∙ more_text o more;
    }

pub closes : {a : Tags} (tag : List ℕ) → Leads (tag ∷ a) (end_text tag) a
closes {a = a} tag = record { go = λ o sound named. closing o tag a sound named }

pub unmoved : {a : Tags} → Leads a [] a
unmoved = record { go = λ o sound named. record { at = o; sound = sound; named = named; same = append-nil (open_text o) } }

pub likewise : {a b : Tags} {s t : List ℕ} → s ≡ t → Leads a t b → Leads a s b
likewise {a = a} {b = b} e p = subst (λ (l : List ℕ). Leads a l b) (sym e) p

-- Trees of elements, and their text: what is built of these is well-formed, whatever the words are.
use Rattle.std.specs.Prelude.{ℕ, List, [], ◌∷◌, ◌++◌, codes}
use Rattle.std.specs.List.{concat}
use Rattle.hw_chart_svg.specs.Names.{escaped}

-- the name of an attribute, and its value, in which no mark stands
pub record Attribute : Type 0 where
  pub name : List ℕ
  pub value : List ℕ

mutual
  pub data Node : Type 0 where
    words : List ℕ → Node
    element : List ℕ → List Attribute → Nodes → Node

  pub data Nodes : Type 0 where
    no_more : Nodes
    node : Node → Nodes → Nodes

abbrev pub attributes_text : List Attribute → List ℕ
attributes_text [] = []
attributes_text (a ∷ more) = concat (codes " " ∷ a.name ∷ codes "=\"" ∷ a.value ∷ codes "\"" ∷ []) ++ attributes_text more

abbrev mutual
  pub node_text : Node → List ℕ
  node_text (words text) = escaped text
  node_text (element tag attributes no_more) = concat (codes "<" ∷ tag ∷ attributes_text attributes ∷ codes "/>" ∷ [])
  node_text (element tag attributes (node first more)) = concat (codes "<" ∷ tag ∷ attributes_text attributes ∷ codes ">" ∷ nodes_text (node first more) ∷ codes "</" ∷ tag ∷ codes ">" ∷ [])

  pub nodes_text : Nodes → List ℕ
  nodes_text no_more = []
  nodes_text (node first more) = node_text first ++ nodes_text more

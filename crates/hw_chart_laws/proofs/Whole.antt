-- A picture is one element in which trees stand before its style sheet and after it.
use Rattle.std.proofs.Common.{◌≡◌, ◌++◌, ◌∙◌, ◌-◌, ℕ, true, List, [], ◌∷◌, codes, decimal, length, take, drop, refl, ap, sym, append_assoc}
use Rattle.std.specs.List.{list_all, concat}
use Rattle.hw_chart_svg.specs.Names.{byte_text}
use Rattle.hw_chart_svg.specs.Sheets.{picture, picture_begin, size_begin}
use Rattle.hw_chart_svg.specs.Trees.{Attribute, Nodes, words, no_more, node, node_text, attributes_text, nodes_text}
use Rattle.hw_chart_svg.specs.WellFormed.{attribute, picture_attributes, title_node}
use Rattle.hw_chart_svg.proofs.Nested.{picture_nested}
use Rattle.hw_chart.specs.Headings.{style}
use Rattle.hw_chart_laws.specs.Trees.{IsPicture, are_attributes, are_trees, inside, is_sheet}
use Rattle.hw_chart_laws.proofs.Calm.{Still, fixed, both, plain}
use Rattle.hw_chart_laws.proofs.Elements.{kept}
use Rattle.hw_chart_laws.proofs.Plain.{Plain, letters, number, both as both_plain}
use Rattle.hw_chart_laws.proofs.Spelled.{plain_same}
use Rattle.hw_chart_laws.proofs.Open.{Leads, Open, whole, within, are_open, open_tags, open_text}

-- ---- the style sheet

sheet : List ℕ
unfolding style
sheet = take (length style - 16) (drop 7 style)

style_is : style ≡ codes "<style>" ++ (sheet ++ codes "</style>\n")
unfolding style sheet
style_is = refl

sheet_is : list_all is_sheet sheet ≡ true
unfolding style sheet
sheet_is = refl

pub still_style : Still style
unfolding style
still_style = fixed style refl

styled : (after : List ℕ) → style ++ after ≡ codes "<style>" ++ (sheet ++ (codes "</style>\n" ++ after))
styled after = ap (λ (l : List ℕ). l ++ after) style_is ∙ ap (λ (l : List ℕ). codes "<style>" ++ l) (append_assoc sheet (codes "</style>\n") after)

-- ---- the beginning of a picture

pub still_begin : (width height : ℕ) {title : List ℕ} → Plain title → Still (picture_begin width height title)
unfolding size_begin
still_begin width height t = both (both (fixed (codes "<svg xmlns=\"http://www.w3.org/2000/svg\" width=\"") refl) (both (plain (number _)) (both (fixed (codes "\" height=\"") refl) (both (plain (number _)) (both (fixed (codes "\" viewBox=\"0 0 ") refl) (both (plain (number _)) (both (fixed (codes " ") refl) (both (plain (number _)) (both (fixed (codes "\" role=\"graphics-document\" aria-label=\"") refl) (fixed [] refl)))))))))) (both (plain t) (both (fixed (codes "\" xml:lang=\"en\" xml:space=\"preserve\">\n<title>") refl) (both (plain t) (both (fixed (codes "</title>\n") refl) (fixed [] refl)))))

attributes_are : (width height : ℕ) (title : List ℕ) → Plain title → are_attributes (picture_attributes width height title) ≡ true
attributes_are width height title t =
    let a : List Attribute = attribute (codes "xml:space") (codes "preserve") ∷ [] in
    let b : List Attribute = attribute (codes "xml:lang") (codes "en") ∷ a in
    let c : List Attribute = attribute (codes "aria-label") title ∷ b in
    let d : List Attribute = attribute (codes "role") (codes "graphics-document") ∷ c in
    let box : Attribute = attribute (codes "viewBox") (codes "0 0 " ++ (decimal width ++ (codes " " ++ decimal height))) in
    let e : List Attribute = box ∷ d in
    let f : List Attribute = attribute (codes "height") (decimal height) ∷ e in
    let g : List Attribute = attribute (codes "width") (decimal width) ∷ f in
    let view = both_plain (letters (codes "0 0 ") refl) (both_plain (number width) (both_plain (letters (codes " ") refl) (number height))) in
    kept (attribute (codes "xmlns") (codes "http://www.w3.org/2000/svg")) g refl (letters (codes "http://www.w3.org/2000/svg") refl) refl (kept (attribute (codes "width") (decimal width)) f refl (number width) refl (kept (attribute (codes "height") (decimal height)) e refl (number height) refl (kept box d refl view refl (kept (attribute (codes "role") (codes "graphics-document")) c refl (letters (codes "graphics-document") refl) refl (kept (attribute (codes "aria-label") title) b refl t refl refl)))))

abbrev heads : List ℕ → Nodes
heads title = node (words (codes "\n")) (node (title_node title) (node (words (codes "\n")) no_more))

headed : (title after : List ℕ) → nodes_text (heads title) ++ after ≡ codes "\n" ++ (node_text (title_node title) ++ (codes "\n" ++ after))
unfolding byte_text
headed title after = ap (λ (l : List ℕ). codes "\n" ++ l) (append_assoc (node_text (title_node title)) (codes "\n") after)

-- the trees that elements without any open one are
record Trees (text : List ℕ) : Type 0 where
  nodes : Nodes
  sound : are_trees nodes ≡ true
  same : text ≡ nodes_text nodes

all_of : (o : Open) (text : List ℕ) → open_tags o ≡ [] → are_open o ≡ true → text ≡ open_text o → Trees text
all_of (whole nodes) text e sound same = record { nodes = nodes; sound = sound; same = same }
all_of (within o tag attributes nodes) text e sound same = absurd cc

trees_of : {text : List ℕ} → Leads [] text [] → Trees text
trees_of {text = text} p =
    let r = p.go (whole no_more) refl refl in
    all_of r.at text r.named r.sound r.same

pub one_picture : (width height : ℕ) (title middle : List ℕ) → Plain title → Leads [] middle [] → IsPicture (picture width height title (style ++ middle))
one_picture width height title middle t leads =
    let trees = trees_of leads in
    let spelled = plain_same title t.none in
    let title_is : node_text (title_node title) ≡ concat (codes "<title>" ∷ (title ++ []) ∷ codes "</title>" ∷ []) = ap (λ (l : List ℕ). concat (codes "<title>" ∷ (l ++ []) ∷ codes "</title>" ∷ [])) (sym spelled) in
    let within_is : inside (heads title) sheet trees.nodes ≡ codes "\n" ++ (concat (codes "<title>" ∷ (title ++ []) ∷ codes "</title>" ∷ []) ++ (codes "\n" ++ (style ++ middle))) =
    headed title (codes "<style>" ++ (sheet ++ (codes "</style>\n" ++ nodes_text trees.nodes)))
    ∙ ap (λ (l : List ℕ). codes "\n" ++ (node_text (title_node title) ++ (codes "\n" ++ (codes "<style>" ++ (sheet ++ (codes "</style>\n" ++ l)))))) (sym trees.same)
    ∙ ap (λ (l : List ℕ). codes "\n" ++ (node_text (title_node title) ++ (codes "\n" ++ l))) (sym (styled middle))
    ∙ ap (λ (l : List ℕ). codes "\n" ++ (l ++ (codes "\n" ++ (style ++ middle)))) title_is in
    record {
      attributes = picture_attributes width height title;
      before = heads title;
      sheet = sheet;
      after = trees.nodes;
      named = attributes_are width height title t;
      heads = refl;
      styled = sheet_is;
      parts = trees.sound;
      same = picture_nested width height title (style ++ middle) ∙ ap (λ (l : List ℕ). concat (codes "<svg" ∷ attributes_text (picture_attributes width height title) ∷ codes ">" ∷ l ∷ codes "</svg>" ∷ []) ++ codes "\n") (sym within_is);
    }

-- The texts of a 0-1 linear programme: the LP format, and the pseudo-Boolean format OPB.
use Rattle.std.specs.Prelude.{ℕ, ◌+◌, ◌*◌, List, [], ◌∷◌, ◌++◌, codes, decimal, length}
use Rattle.std.specs.List.{concat}
use Rattle.hw_model.specs.Problem.{Problem}
use Rattle.hw_flat_programme.specs.declared.format.Format.{Format}
use Rattle.hw_flat_programme.specs.declared.format.Format.TheVariants.{Lp, Opb}
use Rattle.hw_flat_programme.specs.declared.format.Mark.{Mark}
use Rattle.hw_flat_programme.specs.declared.format.Mark.TheVariants.{Named, Plus, Minus}
use Rattle.hw_flat_programme.specs.declared.format.Sense.{Sense}
use Rattle.hw_flat_programme.specs.declared.format.Sense.TheVariants.{AtMost, Exactly}
use Rattle.hw_flat_programme.specs.Programmes.{Term, Row, Programme}
use Rattle.hw_flat_programme.specs.Rows.{most_from, programme_of}

-- ---- terms

-- the name of a variable
unfoldable pub name_text : ℕ → ℕ → List ℕ
name_text ship slot = concat (codes " x_" ∷ decimal ship ∷ codes "_" ∷ decimal slot ∷ codes "\n" ∷ [])

-- the number of a variable, from 1
unfoldable pub numbered_variable : ℕ → ℕ → ℕ → List ℕ
numbered_variable slots ship slot = concat (codes " x" ∷ decimal (ship * slots + slot + 1) ∷ codes " " ∷ [])

-- a term in a line of its own with its name, or with a sign and its number
abbrev pub term_text : ℕ → Mark → Term → List ℕ
term_text slots Named term = concat (codes " + " ∷ decimal term.weight ∷ name_text term.ship term.slot ∷ [])
term_text slots Plus term = concat (codes "+" ∷ decimal term.weight ∷ numbered_variable slots term.ship term.slot ∷ [])
term_text slots Minus term = concat (codes "-" ∷ decimal term.weight ∷ numbered_variable slots term.ship term.slot ∷ [])

abbrev pub terms_text : ℕ → Mark → List Term → List ℕ
terms_text slots mark [] = []
terms_text slots mark (term ∷ terms) = term_text slots mark term ++ terms_text slots mark terms

-- a sum without terms is spelled by one of weight 0, since the formats want a term
abbrev pub with_a_term : List Term → List Term
with_a_term [] = record { weight = 0; ship = 0; slot = 0 } ∷ []
with_a_term (term ∷ terms) = term ∷ terms

-- ---- rows

-- how the terms of a row stand there: OPB has no "at most", so there these rows are negated
abbrev pub mark_of : Format → Sense → Mark
mark_of Lp sense = Named
mark_of Opb AtMost = Minus
mark_of Opb Exactly = Plus

-- what stands before the bound of a row, and after it
abbrev pub before_bound : Format → Sense → List ℕ
before_bound Lp AtMost = codes " <= "
before_bound Lp Exactly = codes " = "
before_bound Opb AtMost = codes ">= -"
before_bound Opb Exactly = codes "= "

abbrev pub after_bound : Format → List ℕ
after_bound Lp = codes "\n"
after_bound Opb = codes " ;\n"

unfoldable pub row_end : Format → Sense → ℕ → List ℕ
row_end format sense bound = concat (before_bound format sense ∷ decimal bound ∷ after_bound format ∷ [])

abbrev pub linear_row_text : Format → ℕ → Row → List ℕ
linear_row_text format slots row = terms_text slots (mark_of format row.sense) (with_a_term row.terms) ++ row_end format row.sense row.bound

abbrev pub rows_text : Format → ℕ → List Row → List ℕ
rows_text format slots [] = []
rows_text format slots (row ∷ rows) = linear_row_text format slots row ++ rows_text format slots rows

-- ---- whole texts

-- the terms of an objective
abbrev pub sum_text : Format → ℕ → List Term → List ℕ
sum_text format slots terms = terms_text slots (mark_of format Exactly) terms

-- the names of the variables
abbrev pub variables_text : List Term → List ℕ
variables_text [] = []
variables_text (term ∷ terms) = name_text term.ship term.slot ++ variables_text terms

abbrev pub lp_of : ℕ → Programme → List ℕ
lp_of slots programme = concat (codes "Maximize\n cargo:\n" ∷ sum_text Lp slots (with_a_term programme.objective) ∷ codes "Subject To\n" ∷ rows_text Lp slots programme.rows ∷ codes "Binary\n" ∷ variables_text programme.objective ∷ codes "End\n" ∷ [])

-- how many variables and rows there are, which variable has which number, and from what the least sum is taken
unfoldable pub opb_head : ℕ → ℕ → List ℕ
opb_head variables rows = concat (codes "* #variable= " ∷ decimal variables ∷ codes " #constraint= " ∷ decimal rows ∷ codes "\n" ∷ [])

unfoldable pub opb_notes : ℕ → ℕ → List ℕ
opb_notes slots top = concat (codes "* ship V has slot K: x(V * " ∷ decimal slots ∷ codes " + K + 1)\n* cargo: " ∷ decimal top ∷ codes " less this sum\n" ∷ [])

abbrev pub opb_of : ℕ → ℕ → ℕ → Programme → List ℕ
opb_of ships slots top programme = concat (opb_head (ships * slots) (length programme.rows) ∷ opb_notes slots top ∷ codes "min: " ∷ sum_text Opb slots (with_a_term programme.objective) ∷ codes ";\n" ∷ rows_text Opb slots programme.rows ∷ [])

-- the problem in the LP format
unfoldable pub lp_text : Problem → List ℕ
lp_text f = lp_of f.slots (programme_of Lp f)

-- the problem in the OPB format
unfoldable pub opb_text : Problem → List ℕ
opb_text f = opb_of f.ships f.slots (most_from f 0 f.ships) (programme_of Opb f)

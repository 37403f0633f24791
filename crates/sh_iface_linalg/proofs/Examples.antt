-- Which reductions may be split, by their bodies.
use Rattle.std.proofs.Common.{◌≡◌, ℕ, true, false, List, [], ◌∷◌, refl}
use Rattle.std.specs.Prelude.{pos}
use Rattle.sh_base.specs.declared.numbers.Width.TheVariants.{I32}
use Rattle.sh_base.specs.declared.operations.BinOp.{BinOp}
use Rattle.sh_base.specs.declared.operations.BinOp.TheVariants.{Addi, Maxsi, Maxui, Muli}
use Rattle.sh_base.specs.declared.places.Place.{Place}
use Rattle.sh_ir.specs.declared.bodies.Body.{Body}
use Rattle.sh_ir.specs.declared.bodies.BodyKind.TheVariants.{Binary}
use Rattle.sh_ir.specs.declared.bodies.BodyOp.{BodyOp}
use Rattle.sh_ir.specs.declared.types.Dim.TheVariants.{Known}
use Rattle.sh_ir.specs.declared.types.ValueType.TheVariants.{Scalar}
use Rattle.sh_iface.specs.BodyKinds.{kind_of_body}
use Rattle.sh_iface.specs.Elements.{tensor_of}
use Rattle.sh_iface_linalg.specs.Reading.{regional_by}
use Rattle.sh_iface_linalg.specs.Structured.{Structured, loop_by, reduce}

abbrev here : Place
here = record { line = 1; column = 1 }

abbrev does : BinOp → List ℕ → ℕ → BodyOp
does op operands name = record { kind = Binary op; operands = operands; defines = name; result = Scalar I32; place = here }

-- its arguments are 7 and 8, the output's, and it yields 9
abbrev body_of : List BodyOp → Body
body_of ops = record { args = 7 ∷ 8 ∷ []; widths = I32 ∷ I32 ∷ []; ops = ops; yields = 9; width = I32; place = here }

-- a vector of four cells is reduced to one
abbrev reduced : List BodyOp → Structured
reduced ops =
    regional_by (reduce 1 (pos 0 ∷ []) (record { captured = []; body = body_of ops })) 1 ((0 ∷ []) ∷ []) [] (tensor_of (Known 4 ∷ []) I32 ∷ []) (tensor_of [] I32) [] here

greatest : (loop_by (reduced (does Maxsi (8 ∷ 7 ∷ []) 9 ∷ [])) 0).splittable ≡ true
unfolding kind_of_body
greatest = refl

-- the greatest unsigned number isn't a kind
greatest_unsigned : (loop_by (reduced (does Maxui (8 ∷ 7 ∷ []) 9 ∷ [])) 0).splittable ≡ false
unfolding kind_of_body
greatest_unsigned = refl

-- nor is a sum whose other operand is made of the output's value
made_of_outs : (loop_by (reduced (does Muli (8 ∷ 7 ∷ []) 10 ∷ does Addi (8 ∷ 10 ∷ []) 9 ∷ [])) 0).splittable ≡ false
unfolding kind_of_body
made_of_outs = refl

-- nor one beside which another operation uses the output's value, though nothing uses that
used_beside : (loop_by (reduced (does Muli (8 ∷ 8 ∷ []) 10 ∷ does Addi (8 ∷ 7 ∷ []) 9 ∷ [])) 0).splittable ≡ false
unfolding kind_of_body
used_beside = refl

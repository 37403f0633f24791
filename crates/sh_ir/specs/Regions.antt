-- The names of a region body, and those of its function that it uses.
use Rattle.std.specs.Prelude.{ℕ, List, [], ◌∷◌, ◌++◌, Bool, true, not, ◌&&◌, nat_eq, map, filter}
use Rattle.std.specs.List.{list_all, list_any}
use Rattle.sh_ir.specs.declared.bodies.Body.{Body}
use Rattle.sh_ir.specs.declared.bodies.BodyOp.{BodyOp}

abbrev pub is_among : List ℕ → ℕ → Bool
is_among names name = list_any (nat_eq name) names

-- each once, by first occurrence
abbrev pub first_occurrences : List ℕ → List ℕ
first_occurrences [] = []
first_occurrences (name ∷ names) =
    name ∷ filter (λ other. not (nat_eq name other)) (first_occurrences names)

abbrev pub outside : List ℕ → List ℕ → List ℕ
outside own names = filter (λ name. not (is_among own name)) names

-- what the operations and the yield use that isn't the body's own by then
abbrev pub outer_uses : List ℕ → List BodyOp → ℕ → List ℕ
outer_uses own [] yields = outside own (yields ∷ [])
outer_uses own (op ∷ ops) yields =
    outside own op.operands ++ outer_uses (op.defines ∷ own) ops yields

-- the names of the function that a body uses, each once, by first use
abbrev pub captured_by : Body → List ℕ
captured_by body = first_occurrences (outer_uses body.args body.ops body.yields)

-- the names that a body defines
abbrev pub own_names : Body → List ℕ
own_names body = body.args ++ map (λ op. op.defines) body.ops

abbrev pub are_disjoint : List ℕ → List ℕ → Bool
are_disjoint xs ys = list_all (λ x. not (is_among ys x)) xs

-- whether no two of the lists share a name
abbrev pub are_apart : List (List ℕ) → Bool
are_apart [] = true
are_apart (names ∷ others) = list_all (are_disjoint names) others && are_apart others

-- What was read of a printed module is printed as that text.
use Rattle.std.proofs.Common.{◌≡◌, ◌∙◌, ℕ, true, List, [], ◌∷◌, ◌++◌, map, Option, Some, None, inl, inr, refl, ap, sym, subst}
use Rattle.std.specs.Prelude.{MatchOption, ⊤, flat_map, option_to_list}
use Rattle.std.specs.List.{AllByRecursion}
use Rattle.sh_alike.proofs.Renaming.{op_names}
use Rattle.sh_alike.specs.Alike.{AreAlike, AreAlikeEach, AreAlikeFuncs, KeepsApart, names_in_use, names_of_body}
use Rattle.sh_alike.specs.Renamed.{placeless_call, placeless_grid, renamed_func}
use Rattle.sh_ir.specs.Formed.{IsFormed, OperandsFit, bodies_in, body_ops_of, func_names, op_texts, ops_of}
use Rattle.sh_ir.specs.Regions.{is_among, own_names}
use Rattle.sh_ir.specs.Written.{written_by, written_in_body}
use Rattle.sh_ir.specs.declared.bodies.Body.{Body}
use Rattle.sh_ir.specs.declared.functions.Func.{Func}
use Rattle.sh_ir.specs.declared.modules.CallItem.{CallItem}
use Rattle.sh_ir.specs.declared.modules.GridItem.{GridItem}
use Rattle.sh_ir.specs.declared.modules.Module.{Module}
use Rattle.sh_ir.specs.declared.operations.Op.{Op}
use Rattle.sh_parse.proofs.OneReading.{same_module}
use Rattle.sh_parse.proofs.formed.FilesFormed.{read_formed}
use Rattle.sh_parse.specs.Reads.{Reads}
use Rattle.sh_print.specs.Layout.{layout}
use Rattle.sh_print.specs.Layout.Piece.{closing, line_end, opening}
use Rattle.sh_print.specs.Spellings.{word}
use Rattle.sh_print.specs.Tokens.{call_pieces, func_pieces, grid_pieces, items_pieces, module_name, text_of, tokens_of}
use Rattle.sh_print_laws.specs.Printable.{IsPrintable, names_defined}
use Rattle.sh_print_laws.proofs.Members.{Member, all_of, in_chosen, in_first, in_flat, in_map, in_second, of_all}
use Rattle.sh_print_laws.proofs.PrintableForms.{printed_is_read}
use Rattle.sh_print_laws.proofs.PrintableNames.{member_among, member_either}
use Rattle.sh_print_laws.proofs.Reprinted.{BodyUsed, OpUsed, func_same}

module _ (m : Module) (formed : IsFormed m) (f : Func) (fm : Member f m.funcs) (r : ℕ → ℕ) (apart : KeepsApart r (names_in_use f)) where
  -- a name in use
  abbrev InUse : ℕ → Type 0
  InUse a = is_among (names_in_use f) a ≡ true

  of_func : (a : ℕ) → Member a (func_names f) → InUse a
  of_func a am = member_among (names_in_use f) a (in_first (func_names f) (flat_map names_of_body (bodies_in f.ops)) a am)

  of_args : (a : ℕ) → Member a (map (λ arg. arg.id) f.args) → InUse a
  of_args a am = of_func a (in_first (map (λ arg. arg.id) f.args) _ a am)

  of_op : (x : Op) → Member x f.ops → (a : ℕ) → Member a (op_names x) → InUse a
  of_op x xm a am = of_func a (in_second (map (λ arg. arg.id) f.args) _ a (in_flat op_names f.ops x a xm am))

  of_body : (body : Body) → Member body (bodies_in f.ops) → (a : ℕ) → Member a (names_of_body body) → InUse a
  of_body body bm a am = member_among (names_in_use f) a (in_second (func_names f) (flat_map names_of_body (bodies_in f.ops)) a (in_flat names_of_body (bodies_in f.ops) body a bm am))

  in_module : (x : Op) → Member x f.ops → Member x (ops_of m)
  in_module x xm = in_flat (λ f. f.ops) m.funcs f x fm xm

  body_used : (x : Op) → Member x f.ops → (body : Body) → (written_by x.kind).body ≡ Some body → BodyUsed r InUse apart body
  body_used x xm body is =
      let here : Member body (bodies_in f.ops) = in_chosen (λ x. x.body) (op_texts f.ops) (written_by x.kind) body (in_map (λ op. written_by op.kind) f.ops x xm) is in
      let there : Member body (bodies_in (ops_of m)) = in_chosen (λ x. x.body) (op_texts (ops_of m)) (written_by x.kind) body (in_map (λ op. written_by op.kind) (ops_of m) x (in_module x xm)) is in
      let front : List ℕ = own_names body ++ flat_map (λ op. op.operands) body.ops in
      let own = λ (a : ℕ) (am : Member a (own_names body)). of_body body here a (in_first front (body.yields ∷ []) a (in_first (own_names body) (flat_map (λ op. op.operands) body.ops) a am)) in
      record {
        own = all_of InUse (own_names body) own;
        fit = all_of (λ y. OperandsFit (written_in_body y.kind) y.operands) body.ops (λ y ym. of_all _ (body_ops_of m) y formed.body_operands (in_flat (λ body. body.ops) (bodies_in (ops_of m)) body y there ym));
        operands = all_of (λ y. AllByRecursion InUse y.operands) body.ops (λ y ym. all_of InUse y.operands (λ a am.
            of_body body here a (in_first front (body.yields ∷ []) a (in_second (own_names body) (flat_map (λ op. op.operands) body.ops) a (in_flat (λ op. op.operands) body.ops y a ym am)))));
        defines = all_of (λ y. InUse y.defines) body.ops (λ y ym. own y.defines (in_second body.args (map (λ op. op.defines) body.ops) y.defines (in_map (λ op. op.defines) body.ops y ym)));
        yields = of_body body here body.yields (in_second front (body.yields ∷ []) body.yields (inl refl));
      }

  op_used : (x : Op) → Member x f.ops → OpUsed r InUse apart x
  op_used x xm = record {
    fit = of_all _ (ops_of m) x formed.operands (in_module x xm);
    operands = all_of InUse x.operands (λ a am. of_op x xm a (in_first x.operands (option_to_list x.defines) a am));
    defines = all_of InUse (option_to_list x.defines) (λ a am. of_op x xm a (in_second x.operands (option_to_list x.defines) a am));
    body = by (written_by x.kind).body refl;
  }
    where
      by : (o : Option Body) → (written_by x.kind).body ≡ o → MatchOption o ⊤ (BodyUsed r InUse apart)
      by None e = tt
      by (Some body) e = body_used x xm body e

  of_defines : (ops : List Op) → ((x : Op) → Member x ops → Member x f.ops) → (a : ℕ) → Member a (flat_map (λ op. option_to_list op.defines) ops) → InUse a
  of_defines [] so a am = absurd am
  of_defines (x ∷ ops) so a am = elim (member_either (option_to_list x.defines) (flat_map (λ op. option_to_list op.defines) ops) a am) [
    | inl h ↦ of_op x (so x (inl refl)) a (in_second x.operands (option_to_list x.defines) a h)
    | inr h ↦ of_defines ops (λ y ym. so y (inr ym)) a h
  ]

  func_printed : func_pieces (renamed_func r f) ≡ func_pieces f
  func_printed = func_same r InUse apart f
      (all_of InUse (names_defined f) (λ a am. elim (member_either (map (λ arg. arg.id) f.args) (flat_map (λ op. option_to_list op.defines) f.ops) a am) [
        | inl h ↦ of_args a h
        | inr h ↦ of_defines f.ops (λ x xm. xm) a h
      ]))
      (all_of InUse (map (λ arg. arg.id) f.args) of_args) (all_of (OpUsed r InUse apart) f.ops op_used)

-- ## Modules

module _ (m n : Module) (formed : IsFormed m) (other : IsFormed n) where
  one_printed : (f g : Func) → Member f m.funcs → Member g n.funcs → AreAlikeFuncs f g → func_pieces f ≡ func_pieces g
  one_printed f g fm gm a =
      sym (func_printed m formed f fm a.renaming a.apart) ∙ ap func_pieces a.same ∙ func_printed n other g gm (λ id. id) (λ a b h k e. e)

  all_printed : (fs gs : List Func) → ((f : Func) → Member f fs → Member f m.funcs) → ((g : Func) → Member g gs → Member g n.funcs) → AreAlikeEach fs gs
      → flat_map func_pieces fs ≡ flat_map func_pieces gs
  all_printed [] [] fm gm a = refl
  all_printed [] (g ∷ gs) fm gm a = absurd a
  all_printed (f ∷ fs) [] fm gm a = absurd a
  all_printed (f ∷ fs) (g ∷ gs) fm gm a =
      ap (λ ps. ps ++ flat_map func_pieces fs) (one_printed f g (fm f (inl refl)) (gm g (inl refl)) a.0)
      ∙ ap (λ ps. func_pieces g ++ ps) (all_printed fs gs (λ x xm. fm x (inr xm)) (λ x xm. gm x (inr xm)) a.1)

grids_printed : (gs : List GridItem) → flat_map grid_pieces (map placeless_grid gs) ≡ flat_map grid_pieces gs
unfolding grid_pieces
grids_printed [] = refl
grids_printed (g ∷ gs) = ap (λ ps. grid_pieces g ++ ps) (grids_printed gs)

calls_printed : (cs : List CallItem) → flat_map call_pieces (map placeless_call cs) ≡ flat_map call_pieces cs
unfolding call_pieces
calls_printed [] = refl
calls_printed (c ∷ cs) = ap (λ ps. call_pieces c ++ ps) (calls_printed cs)

tokens_same : (m n : Module) → IsFormed m → IsFormed n → AreAlike m n → tokens_of m ≡ tokens_of n
unfolding tokens_of items_pieces
tokens_same m n formed other a =
    let grids : flat_map grid_pieces m.grids ≡ flat_map grid_pieces n.grids = sym (grids_printed m.grids) ∙ ap (flat_map grid_pieces) a.grids ∙ grids_printed n.grids in
    let calls : flat_map call_pieces m.calls ≡ flat_map call_pieces n.calls = sym (calls_printed m.calls) ∙ ap (flat_map call_pieces) a.calls ∙ calls_printed n.calls in
    let funcs : flat_map func_pieces m.funcs ≡ flat_map func_pieces n.funcs = all_printed m n formed other m.funcs n.funcs (λ f fm. fm) (λ g gm. gm) a.funcs in
    ap (λ name. word "module" ∷ module_name name ++ opening ∷ (flat_map grid_pieces m.grids ++ flat_map func_pieces m.funcs ++ flat_map call_pieces m.calls) ++ closing ∷ line_end ∷ []) a.name
    ∙ ap (λ ps. word "module" ∷ module_name n.name ++ opening ∷ (ps ++ flat_map func_pieces m.funcs ++ flat_map call_pieces m.calls) ++ closing ∷ line_end ∷ []) grids
    ∙ ap (λ ps. word "module" ∷ module_name n.name ++ opening ∷ (flat_map grid_pieces n.grids ++ ps ++ flat_map call_pieces m.calls) ++ closing ∷ line_end ∷ []) funcs
    ∙ ap (λ ps. word "module" ∷ module_name n.name ++ opening ∷ (flat_map grid_pieces n.grids ++ flat_map func_pieces n.funcs ++ ps) ++ closing ∷ line_end ∷ []) calls

pub alike_printed : (m n : Module) → IsFormed m → IsFormed n → AreAlike m n → text_of m ≡ text_of n
alike_printed m n formed other a = ap layout (tokens_same m n formed other a)

pub twice_printed : (m n : Module) → IsPrintable m → Reads (text_of m) n → text_of n ≡ text_of m
twice_printed m n p reads =
    let it = printed_is_read m p in
    let same : it.found ≡ n = same_module (text_of m) it.found n it.reads reads in
    sym (alike_printed m n p.formed (read_formed (text_of m) n reads) (subst (AreAlike m) same it.alike))

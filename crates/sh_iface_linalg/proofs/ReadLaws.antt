-- What is read off a structured operation whose maps fit its types is in order.
use Rattle.std.proofs.Common.{◌≡◌, ℕ, ◌-◌, ◌<◌, ◌≤◌, List, [], ◌∷◌, ◌++◌, map, length, refl, ap, ap₂, sym, ◌∙◌, arith, subst}
use Rattle.std.proofs.lemmas.List.{length-map}
use Rattle.std.specs.List.{AllByRecursion, range_with_len}
use Rattle.std.specs.Prelude.{◌||◌, get_or}
use Rattle.sh_base.specs.declared.numbers.Width.{Width}
use Rattle.sh_base.specs.declared.places.Place.{Place}
use Rattle.sh_base.specs.Shape.{max_cells, max_rank}
use Rattle.sh_ir.specs.declared.types.ValueType.{ValueType}
use Rattle.sh_ir.specs.declared.types.ValueType.TheVariants.{Nothing}
use Rattle.sh_ir.specs.Shapes.{shape_of}
use Rattle.sh_ir.specs.Written.{first_type}
use Rattle.sh_nest_laws.specs.LoopSplits.{Operand, names}
use Rattle.sh_sem.specs.Scalars.{width_of}
use Rattle.sh_sharding.specs.Sharding.{counted_cells}
use Rattle.sh_iface.specs.Elements.{known_dims, tensor_of}
use Rattle.sh_iface_linalg.specs.Loops.{length-range, map_twice}
use Rattle.sh_iface_linalg.specs.Reading.{IsNamed, inputs_by, reduced_extents, structured_by}
use Rattle.sh_iface_linalg.specs.Structured.{FitsNumbers, FitsRegion, FitsWidths, Form, IsFollowing, IsStructured, Structured, first_rank, input_type, inputs_at, is_named, known, loops_at, output_at}
use Rattle.sh_iface_linalg.specs.Structured.{fill, matmul, batch_matmul, matvec, vecmat, dot, transpose, broadcast, reduce, generic}
use Rattle.sh_iface_linalg.proofs.NestLaws.{got_mapped, got_range}
use Rattle.sh_iface_linalg.proofs.Pairs.{AreShapes, Pair, all_pairs, first_at}
use Rattle.sh_iface_linalg.proofs.RowLaws.{AllBelow, IsRow, extents_are, named_in, range_axes, row_is}
use Rattle.sh_iface_linalg.proofs.PermutedLaws.{range_below}

-- an input's type, within the limits
pub record IsInput (form : Form) (t : ValueType) : Type 0 where
  pub is : t ≡ input_type form (known_dims (shape_of t)) (width_of t)
  pub short : length (shape_of t) ≤ max_rank
  pub small : counted_cells (shape_of t) ≤ max_cells

-- ---- inputs of loops and widths

pub zipped_dims : (maps : List (List ℕ)) (ws : List Width) → length ws ≡ length maps → map (λ (x : Operand). x.dims) (inputs_by maps ws) ≡ maps
zipped_dims [] [] e = refl
zipped_dims [] (w ∷ ws) e = refl
zipped_dims (ls ∷ maps) [] e = absurd (omega (arith, e))
zipped_dims (ls ∷ maps) (w ∷ ws) e = ap (λ ms. ls ∷ ms) (zipped_dims maps ws (omega (arith, e)))

pub zipped_widths : (maps : List (List ℕ)) (ws : List Width) → length ws ≡ length maps → map (λ (x : Operand). x.width) (inputs_by maps ws) ≡ ws
zipped_widths [] [] e = refl
zipped_widths [] (w ∷ ws) e = absurd (omega (arith, e))
zipped_widths (ls ∷ maps) [] e = absurd (omega (arith, e))
zipped_widths (ls ∷ maps) (w ∷ ws) e = ap (λ vs. w ∷ vs) (zipped_widths maps ws (omega (arith, e)))

pub zipped_named : (maps : List (List ℕ)) (ws : List Width) (out : Operand) (l : ℕ) → length ws ≡ length maps → is_named (inputs_by maps ws) out l ≡ named_in maps out.dims l
zipped_named [] ws out l e = refl
zipped_named (ls ∷ maps) [] out l e = absurd (omega (arith, e))
zipped_named (ls ∷ maps) (w ∷ ws) out l e = ap (λ b. names ls l || b) (zipped_named maps ws out l (omega (arith, e)))

pub zipped_first : (maps : List (List ℕ)) (ws : List Width) → length ws ≡ length maps → first_rank (inputs_by maps ws) ≡ length (get_or maps 0 [])
zipped_first [] ws e = refl
zipped_first (ls ∷ maps) [] e = absurd (omega (arith, e))
zipped_first (ls ∷ maps) (w ∷ ws) e = refl

pub read_widths : (maps : List (List ℕ)) (ts : List ValueType) → length ts ≡ length maps → length maps ≤ 2
    → inputs_by maps (width_of (get_or ts 0 Nothing) ∷ width_of (get_or ts 1 Nothing) ∷ []) ≡ inputs_by maps (map width_of ts)
read_widths [] ts e two = refl
read_widths (a ∷ maps) [] e two = absurd (omega (arith, e))
read_widths (a ∷ []) (t ∷ ts) e two = refl
read_widths (a ∷ b ∷ maps) (t ∷ []) e two = absurd (omega (arith, e))
read_widths (a ∷ b ∷ []) (t ∷ u ∷ ts) e two = refl
read_widths (a ∷ b ∷ c ∷ maps) (t ∷ u ∷ ts) e two = absurd (omega (arith, two))

-- ---- shapes

pub own_shape : (F : ℕ → ℕ) (maps : List (List ℕ)) (out : List ℕ) (ts : List ValueType) (s : List ℕ) → length ts ≡ length maps → AreShapes F (maps ++ out ∷ []) (map shape_of ts ++ s ∷ []) → s ≡ map F out
own_shape F [] out [] s e h = h.0
own_shape F [] out (t ∷ ts) s e h = absurd (omega (arith, e))
own_shape F (ls ∷ maps) out [] s e h = absurd (omega (arith, e))
own_shape F (ls ∷ maps) out (t ∷ ts) s e h = own_shape F maps out ts s (omega (arith, e)) h.1

pub in_shapes : (F : ℕ → ℕ) (maps : List (List ℕ)) (out : List ℕ) (ts : List ValueType) (s : List ℕ) → length ts ≡ length maps → AreShapes F (maps ++ out ∷ []) (map shape_of ts ++ s ∷ []) → AreShapes F maps (map shape_of ts)
in_shapes F [] out [] s e h = tt
in_shapes F [] out (t ∷ ts) s e h = absurd (omega (arith, e))
in_shapes F (ls ∷ maps) out [] s e h = absurd (omega (arith, e))
in_shapes F (ls ∷ maps) out (t ∷ ts) s e h = (h.0, in_shapes F maps out ts s (omega (arith, e)) h.1)

first_shape : (F : ℕ → ℕ) (maps : List (List ℕ)) (ts : List ValueType) → AreShapes F maps (map shape_of ts) → shape_of (first_type ts) ≡ map F (get_or maps 0 [])
first_shape F [] [] h = refl
first_shape F [] (t ∷ ts) h = absurd h
first_shape F (ls ∷ maps) [] h = absurd h
first_shape F (ls ∷ maps) (t ∷ ts) h = h.0

pub mapped_below : (F G : ℕ → ℕ) (n : ℕ) → ((l : ℕ) → l < n → G l ≡ F l) → (ls : List ℕ) → AllByRecursion (λ l. l < n) ls → map F ls ≡ map G ls
mapped_below F G n h [] below = refl
mapped_below F G n h (l ∷ ls) below = ap₂ ◌∷◌ (sym (h l below.0)) (mapped_below F G n h ls below.1)

pub shapes_below : (F G : ℕ → ℕ) (n : ℕ) → ((l : ℕ) → l < n → G l ≡ F l) → (maps shapes : List (List ℕ)) → AllBelow n maps → AreShapes F maps shapes → AreShapes G maps shapes
shapes_below F G n h [] [] below are = tt
shapes_below F G n h [] (ns ∷ shapes) below are = absurd are
shapes_below F G n h (ls ∷ maps) [] below are = absurd are
shapes_below F G n h (ls ∷ maps) (ns ∷ shapes) below are = (are.0 ∙ mapped_below F G n h ls below.0, shapes_below F G n h maps shapes below.1 are.1)

-- ---- the operation

named_region : (form : Form) (ins : List Width) (w : Width) → IsNamed form → FitsRegion form [] ins w
named_region fill ins w h = refl
named_region matmul ins w h = refl
named_region batch_matmul ins w h = refl
named_region matvec ins w h = refl
named_region vecmat ins w h = refl
named_region dot ins w h = refl
named_region (transpose p) ins w h = refl
named_region (broadcast d) ins w h = refl
named_region (reduce n d r) ins w h = absurd h
named_region (generic maps its r) ins w h = absurd h

abbrev pub pairs_in : Form → List ValueType → ValueType → List Pair
pairs_in form ts t =
    let r = length (shape_of t) in
    all_pairs (inputs_at form r r ++ range_with_len 0 r ∷ []) (map shape_of ts ++ shape_of t ∷ [])

-- what the rules say of the types of operands and result
pub record Fits (form : Form) (ts : List ValueType) (t : ValueType) : Type 0 where
  pub named : IsNamed form
  pub count : length ts ≡ length (inputs_at form (length (shape_of t)) (length (shape_of t)))
  pub inputs : AllByRecursion (IsInput form) ts
  pub out : t ≡ tensor_of (known_dims (shape_of t)) (width_of t)
  pub short : length (shape_of t) ≤ max_rank
  pub small : counted_cells (shape_of t) ≤ max_cells
  pub out_rank : length (output_at form (length (shape_of t))) ≡ length (shape_of t)
  pub shapes : AreShapes (first_at (pairs_in form ts t)) (inputs_at form (length (shape_of t)) (length (shape_of t)) ++ range_with_len 0 (length (shape_of t)) ∷ []) (map shape_of ts ++ shape_of t ∷ [])
  pub numbers : FitsNumbers form (length (shape_of (first_type ts))) (length (shape_of t))
  pub widths : FitsWidths form (width_of t) (map width_of ts)

module _ (form : Form) (ts : List ValueType) (t : ValueType) (place : Place) (fits : Fits form ts t) where
  abbrev pub s : List ℕ
  s = shape_of t

  abbrev pub r : ℕ
  r = length s

  abbrev pub maps : List (List ℕ)
  maps = inputs_at form r r

  abbrev pub h : List ℕ
  h = shape_of (first_type ts)

  abbrev pub F : ℕ → ℕ
  F = first_at (pairs_in form ts t)

  abbrev pub X : List ℕ
  X = s ++ reduced_extents form (get_or h (length h - 1) 0)

  abbrev pub G : ℕ → ℕ
  G l = get_or X l 0

  abbrev pub L : ℕ
  L = loops_at form r

  abbrev pub ws : List Width
  ws = map width_of ts

  abbrev pub own : Operand
  own = record { dims = range_with_len 0 r; width = width_of t }

  abbrev pub e : Structured
  e = record { form = form; extents = X; ins = inputs_by maps ws; out = own; captured = []; place = place }

  pub row : IsRow form r
  row = row_is form (length h) r fits.named fits.out_rank fits.short fits.numbers

  pub e_is : structured_by form s (get_or h (length h - 1) 0) (width_of (get_or ts 0 Nothing)) (width_of (get_or ts 1 Nothing)) (width_of t) place ≡ e
  e_is = ap (λ xs. record { form = form; extents = X; ins = xs; out = own; captured = []; place = place }) (read_widths maps ts fits.count row.two)

  ws_counted : length ws ≡ length maps
  ws_counted = length-map ts width_of ∙ fits.count

  F_shapes : AreShapes F maps (map shape_of ts)
  F_shapes = in_shapes F maps (range_with_len 0 r) ts s fits.count fits.shapes

  pub head_is : h ≡ map F (get_or maps 0 [])
  head_is = first_shape F maps ts F_shapes

  pub X_is : X ≡ map F (range_with_len 0 L)
  X_is = extents_are form F r fits.named fits.out_rank s h (own_shape F maps (range_with_len 0 r) ts s fits.count fits.shapes) head_is

  pub X_counted : length X ≡ L
  X_counted = ap length X_is ∙ length-map (range_with_len 0 L) F ∙ length-range 0 L

  G_is : (l : ℕ) → l < L → G l ≡ F l
  G_is l lt =
      let n = length-range 0 L in
      ap (λ xs. get_or xs l 0) X_is ∙ got_mapped F (range_with_len 0 L) l 0 0 (omega (arith, lt, n)) ∙ ap F (got_range L l lt)

  pub G_shapes : AreShapes G maps (map shape_of ts)
  G_shapes = shapes_below F G L G_is maps (map shape_of ts) row.below F_shapes

  pub G_own : s ≡ map G (range_with_len 0 r)
  G_own = own_shape F maps (range_with_len 0 r) ts s fits.count fits.shapes ∙ mapped_below F G L G_is (range_with_len 0 r) (range_below 0 r L (let le = row.ranks in omega (arith, le)))

  -- ---- its types

  pub types_are : (maps : List (List ℕ)) (ts : List ValueType) → AllByRecursion (IsInput form) ts → AreShapes G maps (map shape_of ts) → ts ≡ map (λ (x : Operand). input_type form (map (known X) x.dims) x.width) (inputs_by maps (map width_of ts))
  types_are [] [] is are = refl
  types_are [] (u ∷ us) is are = absurd are
  types_are (ls ∷ maps) [] is are = absurd are
  types_are (ls ∷ maps) (u ∷ us) is are =
      ap₂ ◌∷◌ (is.0.is ∙ ap (λ dims. input_type form dims (width_of u)) (ap known_dims are.0 ∙ map_twice _ G ls)) (types_are maps us is.1 are.1)

  pub own_type_is : t ≡ tensor_of (map (known X) (range_with_len 0 r)) (width_of t)
  own_type_is = fits.out ∙ ap (λ dims. tensor_of dims (width_of t)) (ap known_dims G_own ∙ map_twice _ G (range_with_len 0 r))

  -- ---- it is in order

  below_all : (ls : List ℕ) → AllByRecursion (λ l. l < L) ls → AllByRecursion (λ l. l < length X) ls
  below_all ls h = subst (λ n. AllByRecursion (λ l. l < n) ls) (sym X_counted) h

  following : (ls : List ℕ) (w : Width) (ns : List ℕ) → AllByRecursion (λ l. l < L) ls → ns ≡ map G ls → length ns ≤ max_rank → counted_cells ns ≤ max_cells → IsFollowing X (record { dims = ls; width = w })
  following ls w ns below is short small = record {
    below = below_all ls below;
    short = let n : length ns ≡ length ls = ap length is ∙ length-map ls G in omega (arith, n, short);
    small = subst (λ xs. counted_cells xs ≤ max_cells) is small;
  }

  ins_following : (maps : List (List ℕ)) (ts : List ValueType) → AllByRecursion (IsInput form) ts → AllBelow L maps → AreShapes G maps (map shape_of ts) → AllByRecursion (IsFollowing X) (inputs_by maps (map width_of ts))
  ins_following [] [] is below are = tt
  ins_following [] (u ∷ us) is below are = absurd are
  ins_following (ls ∷ maps) [] is below are = absurd are
  ins_following (ls ∷ maps) (u ∷ us) is below are = (following ls (width_of u) (shape_of u) below.0 are.0 is.0.short is.0.small, ins_following maps us is.1 below.1 are.1)

  pub structured : IsStructured e
  structured =
      let rank : length (range_with_len 0 r) ≡ r = length-range 0 r in
      let head : length h ≡ length (get_or maps 0 []) = ap length head_is ∙ length-map (get_or maps 0 []) F in
      let first : first_rank (inputs_by maps ws) ≡ length (get_or maps 0 []) = zipped_first maps ws ws_counted in
      let counted = X_counted in
      let few = row.few in
      let ranks = row.ranks in
      record {
        loops = ap (loops_at form) rank ∙ sym X_counted;
        inputs = ap₂ (inputs_at form) first rank ∙ row.first ∙ sym (zipped_dims maps ws ws_counted);
        output = ap (output_at form) rank ∙ row.output;
        region = named_region form (map (λ (x : Operand). x.width) (inputs_by maps ws)) (width_of t) fits.named;
        widths = subst (FitsWidths form (width_of t)) (sym (zipped_widths maps ws ws_counted)) fits.widths;
        numbers = subst (λ f. FitsNumbers form f (length (range_with_len 0 r))) (head ∙ sym first) (subst (FitsNumbers form (length h)) (sym rank) fits.numbers);
        few = omega (arith, counted, few);
        ins = ins_following maps ts fits.inputs row.below G_shapes;
        out = following (range_with_len 0 r) (width_of t) s (range_below 0 r L (omega (arith, ranks))) G_own fits.short fits.small;
        once = range_axes 0 r (length X) (omega (arith, counted, ranks));
        named = λ l lt. zipped_named maps ws own l ws_counted ∙ row.named l (omega (arith, lt, counted));
      }

-- Maps of loops, and kinds of loops.
use Rattle.std.proofs.Common.{◌≡◌, ◌∙◌, ◌<◌, ◌^◌, ℕ, List, [], ◌∷◌, ◌++◌, map, Some, None, refl, ap, codes}
use Rattle.std.specs.Prelude.{decimal}
use Rattle.std.specs.List.{AllByRecursion}
use Rattle.sh_base.specs.declared.places.Place.{Place}
use Rattle.sh_build.specs.Meaning.{iterator_of, made}
use Rattle.sh_build.specs.Readings.{id_in, map_in, maps_in, quoted_in}
use Rattle.sh_build.specs.declared.parts.Part.{Part}
use Rattle.sh_build.specs.declared.parts.Part.TheVariants as part
use Rattle.sh_grammar.specs.Lexemes.{Lexeme, class_of, former_words, hashes, bangs, dims, first_class, signs, words}
use Rattle.sh_grammar.specs.declared.forms.Form.TheVariants as forms
use Rattle.sh_grammar.specs.declared.symbols.Symbol.{Symbol}
use Rattle.sh_grammar.specs.declared.symbols.Symbol.TheVariants as symbol
use Rattle.sh_ir.specs.declared.linalg_ops.AffineMap.{AffineMap}
use Rattle.sh_literals.specs.Fronts.{before}
use Rattle.sh_ir.specs.declared.linalg_ops.IteratorType.{IteratorType}
use Rattle.sh_ir.specs.declared.linalg_ops.IteratorType.TheVariants.{Parallel, Reduction, Unknown}
use Rattle.sh_lex.specs.Tokens.{is_digit}
use Rattle.sh_lex.specs.declared.tokens.TokenKind.{TokenKind}
use Rattle.sh_lex.specs.declared.tokens.TokenKind.TheVariants as kind
use Rattle.sh_names.specs.Names.{Owned, behind, is_own, mention_of, names_by_role, role_in}
use Rattle.sh_names.specs.declared.scopes.Role.TheVariants as role
use Rattle.sh_names.specs.declared.scopes.Scope.{Scope}
use Rattle.sh_print.specs.Layout.{Piece}
use Rattle.sh_print.specs.Spellings.{list_of, rest_of_list}
use Rattle.sh_print.specs.Tokens.{iterator_pieces, loop_word, loops_pieces, map_pieces}
use Rattle.sh_print_laws.specs.TokensOf.{lexeme}
use Rattle.sh_print_laws.proofs.Decimals.{IsNumeral, byte_other, first_digit, numeral}
use Rattle.sh_print_laws.proofs.Keywords as keyword
use Rattle.sh_print_laws.proofs.Rows.{FormTo, Gives, Naming, RowTo, by_row, by_row_entered, end_row, form_between, last_form, last_is, then_form, then_in_2, then_in_3, then_numbered, then_token}
use Rattle.sh_print_laws.proofs.Standing.{Mentioned, Placed, Spot, Standing, enters_plain, first_by, is_calm, name_of, name_used, naming, num_by, owned, plain_inside, stands_behind, steps_on}
use Rattle.sh_print_laws.proofs.Walks.{State, enter, step}

-- the word of a loop
abbrev pub word_of : ℕ → List ℕ
word_of n = codes "d" ++ decimal n

word_class : {n : ℕ} {bytes : List ℕ} (it : IsNumeral n bytes) (p : Place) → class_of (lexeme kind.Word (codes "d" ++ bytes) p) ≡ 0
unfolding class_of words first_class former_words hashes bangs dims signs is_digit
word_class {bytes = bytes} it p =
    ap (λ b. class_of (lexeme kind.Word (codes "d" ++ b) p)) it.is
    ∙ rw (byte_other it.first 101 (first_digit it) refl, byte_other it.first 105 (first_digit it) refl) refl

behind_map : (k : TokenKind) (s : Scope) → (behind k s).map ≡ s.map
behind_map kind.At s = refl
behind_map _ s = refl

module _ (v : Owned → ℕ) (s : Spot) (none : s.at ≡ role.Nothing) where
  -- in the map that begins with this token
  abbrev InMap : ℕ → State → Type 0
  InMap k σ = Standing s σ × (σ.scope.map ≡ k)

  abbrev mapping : ℕ → Naming (num_by v)
  mapping k = record {
    Holds = InMap k;
    number = λ text. v (name_of s text);
    enters = λ n σ plain h. (enters_plain s n σ plain h.0, ap (λ x. x.map) (plain_inside σ.count n σ.scope plain) ∙ h.1);
    steps = λ t σ h. (steps_on s none t σ h.0, behind_map t.kind σ.scope ∙ h.1);
    named = λ text place σ h. name_used v s text place σ h.0;
  }

  -- the number of a word
  abbrev pub word_number : ℕ → ℕ → ℕ
  word_number k n = v (owned k None (word_of n))

  -- a word stands here
  record AtWord (k : ℕ) (σ : State) : Type 0 where
    pub stands : Placed s σ
    pub of_map : σ.scope.map ≡ k
    pub begins : σ.scope.opened ≡ Some forms.Name

  enters_name : (k : ℕ) (σ : State) → InMap k σ → AtWord k (enter forms.Name σ)
  enters_name k σ h =
      let mentioned : Mentioned s (enter forms.Name σ) = record {
        kept = h.0.mentioned.kept;
        device = h.0.mentioned.device;
        all = h.0.mentioned.all;
        below = h.0.mentioned.below;
        op_now = h.0.mentioned.op_now;
        step_now = h.0.mentioned.step_now;
      } in
      record {
        stands = record { func = h.0.func; op = h.0.op; inside = h.0.inside; at = h.0.at; mentioned = mentioned; defined = h.0.defined };
        of_map = h.1;
        begins = refl;
      }

  at_word : (k n : ℕ) (σ : State) (p : Place) → AtWord k σ → (num_by v σ (lexeme kind.Word (word_of n) p) ≡ word_number k n) × InMap k (step (lexeme kind.Word (word_of n) p) σ)
  at_word k n σ p h =
      let t : Lexeme = lexeme kind.Word (word_of n) p in
      let is_word : (mention_of σ.scope t).role ≡ role.Word = ap (λ o. role_in o kind.Word σ.scope) h.begins in
      let named : num_by v σ t ≡ word_number k n =
      ap (λ r. first_by v (names_by_role r σ.before (mention_of σ.scope t))) is_word ∙ ap (λ u. v (owned u None (word_of n))) h.of_map in
      (named, (stands_behind s s.at σ t (ap is_calm is_word) (ap is_own is_word) refl h.stands, h.of_map))

  name_spelled : (k n : ℕ) → n < 2 ^ 64 → FormTo (num_by v) (InMap k) (InMap k) forms.Name (loop_word n) (λ p. (place : Place) × (p ≡ part.Mark (record { id = word_number k n; place = place })))
  unfolding made
  name_spelled k n small = by_row_entered 0 refl (enters_name k) (then_numbered (λ p. word_class (numeral n small) p) (at_word k n) (λ p. end_row (mapping k) (p, refl)))

  abbrev AreSmall : List ℕ → Type 0
  AreSmall ns = AllByRecursion (λ n. n < 2 ^ 64) ns

  more_names : (k : ℕ) (ns : List ℕ) → AreSmall ns → Gives (mapping k) forms.MoreNames (rest_of_list loop_word ns) (part.Ids (map (word_number k) ns))
  unfolding made
  more_names k [] h = by_row (mapping k) 0 refl refl (end_row (mapping k) refl)
  more_names k (n ∷ ns) h = by_row (mapping k) 1 refl refl (then_token (mapping k) keyword.the-comma (λ p i. then_form (mapping k) (name_spelled k n h.0) (λ q is.
      last_is (mapping k) (more_names k ns h.1) (ap (λ m. part.Ids (id_in m ∷ map (word_number k) ns)) is.1))))

  names_spelled : (k : ℕ) (ns : List ℕ) → AreSmall ns → Gives (mapping k) forms.Names (list_of loop_word ns) (part.Ids (map (word_number k) ns))
  unfolding made
  names_spelled k [] h = by_row (mapping k) 0 refl refl (end_row (mapping k) refl)
  names_spelled k (n ∷ ns) h = by_row (mapping k) 1 refl refl (then_form (mapping k) (name_spelled k n h.0) (λ q is.
      last_is (mapping k) (more_names k ns h.1) (ap (λ m. part.Ids (id_in m ∷ map (word_number k) ns)) is.1)))

  -- the map, each word with another number, words with one number being one
  abbrev pub IsMapOf : AffineMap → AffineMap → Type 0
  IsMapOf x y = (k : ℕ) × (y ≡ record { loops = map (word_number k) x.loops; results = map (word_number k) x.results })

  enters_map : (σ : State) → Standing s σ → InMap σ.count (enter forms.Map σ)
  enters_map σ h =
      let mentioned : Mentioned s (enter forms.Map σ) = record {
        kept = h.mentioned.kept;
        device = h.mentioned.device;
        all = h.mentioned.all;
        below = h.mentioned.below;
        op_now = h.mentioned.op_now;
        step_now = h.mentioned.step_now;
      } in
      (record { func = h.func; op = h.op; inside = h.inside; at = h.at; roles = λ j. refl; mentioned = mentioned; defined = h.defined }, refl)

  map_row : (k : ℕ) (x : AffineMap) → AreSmall x.loops → AreSmall x.results
      → FormTo (num_by v) (λ σ. InMap k (enter forms.Map σ)) (Standing s) forms.Map (map_pieces x) (λ p. p ≡ part.Map (record { loops = map (word_number k) x.loops; results = map (word_number k) x.results }))
  unfolding made map_pieces loops_pieces
  map_row k x a b = let N = mapping k in
      form_between (λ σ h. h) (λ σ h. h.0) (by_row_entered 0 refl (λ σ h. h) (then_token N keyword.the-affine_map (λ p i. then_token N keyword.the-less (λ p i. then_token N keyword.the-open (λ p i.
      then_in_3 N (names_spelled k x.loops a) _ _ _ (then_token N keyword.the-close (λ p i. then_token N keyword.the-arrow (λ p i. then_token N keyword.the-open (λ p i.
      then_in_2 N (names_spelled k x.results b) _ _ (then_token N keyword.the-close (λ p i. then_token N keyword.the-greater (λ p i. end_row N refl))))))))))))

  pub map_spelled : (x : AffineMap) → AreSmall x.loops → AreSmall x.results → FormTo (num_by v) (Standing s) (Standing s) forms.Map (map_pieces x) (λ p. (y : AffineMap) × (p ≡ part.Map y) × IsMapOf x y)
  map_spelled x a b ts σ are h = let r = map_row σ.count x a b ts σ are (enters_map σ h) in
      record { i = r.i; body = r.body; below = r.below; is = r.is; spells = r.spells; takes = r.takes; value = (_, r.value, (σ.count, refl)); holds = r.holds }

-- ## Lists of maps

abbrev pub AreMapsOf : (v : Owned → ℕ) (s : Spot) → s.at ≡ role.Nothing → List AffineMap → List AffineMap → Type 0
AreMapsOf v s none [] [] = Unit {0}
AreMapsOf v s none [] (y ∷ ys) = ⊥
AreMapsOf v s none (x ∷ xs) [] = ⊥
AreMapsOf v s none (x ∷ xs) (y ∷ ys) = IsMapOf v s none x y × AreMapsOf v s none xs ys

abbrev pub SmallMap : AffineMap → Type 0
SmallMap x = AllByRecursion (λ n. n < 2 ^ 64) x.loops × AllByRecursion (λ n. n < 2 ^ 64) x.results

module _ (v : Owned → ℕ) (s : Spot) (none : s.at ≡ role.Nothing) where
  abbrev IsListOf : List AffineMap → Part → Type 0
  IsListOf xs p = (ys : List AffineMap) × (p ≡ part.Maps ys) × AreMapsOf v s none xs ys

  map_item : (x : AffineMap) → SmallMap x → FormTo (num_by v) (Standing s) (Standing s) forms.MapOrAlias (map_pieces x) (λ p. (y : AffineMap) × (p ≡ part.Map y) × IsMapOf v s none x y)
  unfolding made
  map_item x h = by_row (naming v s none) 1 refl refl (last_form (naming v s none) (map_spelled v s none x h.0 h.1) (λ p is. is))

  with_map : (x : AffineMap) (xs : List AffineMap) (p q : Part) → ((y : AffineMap) × (p ≡ part.Map y) × IsMapOf v s none x y) → IsListOf xs q
      → IsListOf (x ∷ xs) (part.Maps (before (map_in p) (maps_in q)))
  with_map x xs p q one more = (one.0 ∷ more.0, ap (λ p. part.Maps (before (map_in p) (maps_in q))) one.1 ∙ ap (λ q. part.Maps (one.0 ∷ maps_in q)) more.1, (one.2, more.2))

  more_maps : (xs : List AffineMap) → AllByRecursion SmallMap xs → FormTo (num_by v) (Standing s) (Standing s) forms.MoreMaps (rest_of_list map_pieces xs) (IsListOf xs)
  unfolding made
  more_maps [] h = by_row (naming v s none) 0 refl refl (end_row (naming v s none) ([], refl, tt))
  more_maps (x ∷ xs) h = by_row (naming v s none) 1 refl refl (then_token (naming v s none) keyword.the-comma (λ p i. then_form (naming v s none) (map_item x h.0) (λ q is.
      last_form (naming v s none) (more_maps xs h.1) (λ r rest. with_map x xs q r is rest))))

  pub maps_spelled : (xs : List AffineMap) → AllByRecursion SmallMap xs → FormTo (num_by v) (Standing s) (Standing s) forms.Maps (list_of map_pieces xs) (IsListOf xs)
  unfolding made
  maps_spelled [] h = by_row (naming v s none) 0 refl refl (end_row (naming v s none) ([], refl, tt))
  maps_spelled (x ∷ xs) h = by_row (naming v s none) 1 refl refl (then_form (naming v s none) (map_item x h.0) (λ q is.
      last_form (naming v s none) (more_maps xs h.1) (λ r rest. with_map x xs q r is rest)))

-- ## Kinds of loops

module _ {numbered : State → Lexeme → ℕ} (N : Naming numbered) where
  kind_row : {α : List Symbol} {ps : List Piece} {V : List Part → Type 0} (x : IteratorType)
      → ((q : Part) → iterator_of (quoted_in q) ≡ x → RowTo numbered N.Holds N.Holds α ps (λ row. V (q ∷ row)))
      → RowTo numbered N.Holds N.Holds (symbol.Class 8 ∷ α) (iterator_pieces x ++ ps) V
  unfolding class_of
  kind_row Parallel rest = then_token N (λ p. refl) (λ p i. rest (part.Quoted (codes "parallel")) refl)
  kind_row Reduction rest = then_token N (λ p. refl) (λ p i. rest (part.Quoted (codes "reduction")) refl)
  kind_row Unknown rest = then_token N (λ p. refl) (λ p i. rest (part.Quoted (codes "unknown")) refl)

  more_kinds : (xs : List IteratorType) → Gives N forms.MoreIterators (rest_of_list iterator_pieces xs) (part.Iterators xs)
  unfolding made
  more_kinds [] = by_row N 0 refl refl (end_row N refl)
  more_kinds (x ∷ xs) = by_row N 1 refl refl (then_token N keyword.the-comma (λ p i. kind_row x (λ q is. last_is N (more_kinds xs) (ap (λ k. part.Iterators (k ∷ xs)) is))))

  pub kinds_spelled : (xs : List IteratorType) → Gives N forms.Iterators (list_of iterator_pieces xs) (part.Iterators xs)
  unfolding made
  kinds_spelled [] = by_row N 0 refl refl (end_row N refl)
  kinds_spelled (x ∷ xs) = by_row N 1 refl refl (kind_row x (λ q is. last_is N (more_kinds xs) (ap (λ k. part.Iterators (k ∷ xs)) is)))

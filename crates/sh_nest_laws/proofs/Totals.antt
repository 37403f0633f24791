-- Laws of putting values together over lists, by the three laws of the operation.
use Rattle.std.proofs.Common.{◌≡◌, ℕ, zero, suc, ◌+◌, ◌<◌, ◌≤◌, List, [], ◌∷◌, ◌++◌, fold, Option, Some, None, refl, ap, ap₂, sym, ◌∙◌, arith}
use Rattle.std.specs.List.{range_with_len, AllByRecursion}
use Rattle.sh_int.specs.Reduction.{CombineLaws}
use Rattle.sh_nest_laws.specs.Folds.{total, lifted, IfThere}

-- ---- numbers in a row

pub range_add : (a m n : ℕ) → range_with_len a (m + n) ≡ range_with_len a m ++ range_with_len (a + m) n
range_add a zero n = let e : a + 0 ≡ a = omega arith in let z : 0 + n ≡ n = omega arith in rw (e, z) refl
range_add a (suc m) n =
    let e : a + 1 + m ≡ a + suc m = omega arith in
    let s : suc m + n ≡ suc (m + n) = omega arith in
    rw s (ap (λ xs. a ∷ xs) (range_add (a + 1) m n ∙ ap (λ b. range_with_len (a + 1) m ++ range_with_len b n) e))

pub each_in_range : (P : ℕ → Type 0) (a n : ℕ) → ((k : ℕ) → a ≤ k → k < a + n → P k) → AllByRecursion P (range_with_len a n)
each_in_range P a zero h = tt
each_in_range P a (suc n) h = (h a (omega arith) (omega arith), each_in_range P (a + 1) n (λ k le lt. h k (omega (arith, le)) (omega (arith, lt))))

-- ---- the same at each

pub fold_same : {A : Type 0} (f g : A → ℕ → A) (a : A) (ks : List ℕ) → AllByRecursion (λ k. (b : A) → f b k ≡ g b k) ks → fold f a ks ≡ fold g a ks
fold_same f g a [] h = refl
fold_same f g a (k ∷ ks) h = ap (λ b. fold f b ks) (h.0 a) ∙ fold_same f g (g a k) ks h.1

pub total_same : {A X : Type 0} (op : A → A → A) (e : A) (xs : List X) (f g : X → A) → AllByRecursion (λ x. f x ≡ g x) xs → total op e xs f ≡ total op e xs g
total_same op e [] f g h = refl
total_same op e (x ∷ xs) f g h = ap₂ op h.0 (total_same op e xs f g h.1)

pub total_range : {A : Type 0} (op : A → A → A) (e : A) (a n : ℕ) (f : ℕ → A) → total op e (range_with_len a n) f ≡ total op e (range_with_len 0 n) (λ x. f (a + x))
total_range op e a n f = go a 0 n f (λ x. f (a + x)) (λ x. let z : a + (0 + x) ≡ a + x = omega arith in ap f (sym z))
  where
    go : (a b n : ℕ) (f g : ℕ → _) → ((x : ℕ) → f (a + x) ≡ g (b + x)) → total op e (range_with_len a n) f ≡ total op e (range_with_len b n) g
    go a b zero f g h = refl
    go a b (suc n) f g h =
        let first : f a ≡ g b = let x : a + 0 ≡ a = omega arith in let y : b + 0 ≡ b = omega arith in ap f (sym x) ∙ h 0 ∙ ap g y in
        ap₂ op first (go (a + 1) (b + 1) n f g (λ x. let p : a + 1 + x ≡ a + suc x = omega arith in let q : b + 1 + x ≡ b + suc x = omega arith in ap f p ∙ h (suc x) ∙ ap g (sym q)))

module _ {A : Type 0} {Is : A → Type 0} {e : A} {op : A → A → A} (laws : CombineLaws Is e op) where
  pub right_neutral : (x : A) → Is x → op x e ≡ x
  right_neutral x h = laws.commutative x e h laws.neutral_is ∙ laws.left_neutral x h

  module _ {X : Type 0} where
    pub total_is : (xs : List X) (f : X → A) → ((x : X) → Is (f x)) → Is (total op e xs f)
    total_is [] f is = laws.neutral_is
    total_is (x ∷ xs) f is = laws.closed (f x) (total op e xs f) (is x) (total_is xs f is)

    pub total_append : (xs ys : List X) (f : X → A) → ((x : X) → Is (f x)) → total op e (xs ++ ys) f ≡ op (total op e xs f) (total op e ys f)
    total_append [] ys f is = sym (laws.left_neutral (total op e ys f) (total_is ys f is))
    total_append (x ∷ xs) ys f is =
        ap (op (f x)) (total_append xs ys f is) ∙ sym (laws.associative (f x) (total op e xs f) (total op e ys f) (is x) (total_is xs f is) (total_is ys f is))

    pub total_neutral : (xs : List X) → total op e xs (λ x. e) ≡ e
    total_neutral [] = refl
    total_neutral (x ∷ xs) = ap (op e) (total_neutral xs) ∙ laws.left_neutral e laws.neutral_is

    -- pair by pair
    pub total_pairs : (xs : List X) (f g : X → A) → ((x : X) → Is (f x)) → ((x : X) → Is (g x)) → total op e xs (λ x. op (f x) (g x)) ≡ op (total op e xs f) (total op e xs g)
    total_pairs [] f g is is' = sym (laws.left_neutral e laws.neutral_is)
    total_pairs (x ∷ xs) f g is is' =
        let a = f x in let b = g x in let c = total op e xs f in let d = total op e xs g in
        let ia : Is a = is x in let ib : Is b = is' x in let ic : Is c = total_is xs f is in let id : Is d = total_is xs g is' in
        ap (op (op a b)) (total_pairs xs f g is is')
        ∙ laws.associative a b (op c d) ia ib (laws.closed c d ic id)
        ∙ ap (op a) (sym (laws.associative b c d ib ic id) ∙ ap (λ z. op z d) (laws.commutative b c ib ic) ∙ laws.associative c b d ic ib id)
        ∙ sym (laws.associative a c (op b d) ia ic (laws.closed b d ib id))

  -- rows first or columns first
  pub total_swap : {X Y : Type 0} (xs : List X) (ys : List Y) (f : X → Y → A) → ((x : X) (y : Y) → Is (f x y))
      → total op e xs (λ x. total op e ys (λ y. f x y)) ≡ total op e ys (λ y. total op e xs (λ x. f x y))
  total_swap [] ys f is = sym (total_neutral ys)
  total_swap (x ∷ xs) ys f is =
      ap (op (total op e ys (λ y. f x y))) (total_swap xs ys f is)
      ∙ sym (total_pairs ys (λ y. f x y) (λ y. total op e xs (λ x. f x y)) (λ y. is x y) (λ y. total_is xs (λ x. f x y) (λ x. is x y)))

  -- a row in parts, of which some may be empty
  pub total_parts : (off size : ℕ → ℕ) (f : ℕ → A) → ((x : ℕ) → Is (f x)) → off 0 ≡ 0 → (p : ℕ) → ((q : ℕ) → q < p → off q + size q ≡ off (q + 1))
      → total op e (range_with_len 0 (off p)) f ≡ total op e (range_with_len 0 p) (λ q. total op e (range_with_len 0 (size q)) (λ x. f (off q + x)))
  total_parts off size f is begins zero steps = rw begins refl
  total_parts off size f is begins (suc p) steps =
      let next : off (suc p) ≡ off p + size p = let s : p + 1 ≡ suc p = omega arith in ap off (sym s) ∙ sym (steps p (omega arith)) in
      let part : ℕ → A = λ q. total op e (range_with_len 0 (size q)) (λ x. f (off q + x)) in
      let is_part : (q : ℕ) → Is (part q) = λ q. total_is (range_with_len 0 (size q)) (λ x. f (off q + x)) (λ x. is (off q + x)) in
      let z : 0 + off p ≡ off p = omega arith in
      let one : p + 1 ≡ suc p = omega arith in
      let y : 0 + p ≡ p = omega arith in
      ap (λ n. total op e (range_with_len 0 n) f) next
      ∙ ap (λ xs. total op e xs f) (range_add 0 (off p) (size p))
      ∙ total_append (range_with_len 0 (off p)) (range_with_len (0 + off p) (size p)) f is
      ∙ ap₂ op (total_parts off size f is begins p (λ q lt. steps q (omega (arith, lt))))
      (ap (λ b. total op e (range_with_len b (size p)) f) z ∙ total_range op e (off p) (size p) f ∙ sym (right_neutral (part p) (is_part p)))
      ∙ sym (total_append (range_with_len 0 p) (p ∷ []) part is_part)
      ∙ ap (λ xs. total op e xs part) (ap (λ b. range_with_len 0 p ++ b ∷ []) (sym y) ∙ sym (range_add 0 p 1) ∙ ap (range_with_len 0) one)

  -- a fold from a start is the start and then the total
  pub fold_total : (f : A → ℕ → A) (h : ℕ → A) → ((k : ℕ) → Is (h k)) → ((a : A) (k : ℕ) → Is a → f a k ≡ op a (h k)) → (a : A) → Is a → (ks : List ℕ) → fold f a ks ≡ op a (total op e ks h)
  fold_total f h is same a ia [] = sym (right_neutral a ia)
  fold_total f h is same a ia (k ∷ ks) =
      ap (λ b. fold f b ks) (same a k ia)
      ∙ fold_total f h is same (op a (h k)) (laws.closed a (h k) ia (is k)) ks
      ∙ laws.associative a (h k) (total op e ks h) ia (is k) (total_is ks h is)

  -- ---- where a value may be stuck

  pub lifted_laws : CombineLaws (IfThere Is) (Some e) (lifted op)
  lifted_laws = record { neutral_is = laws.neutral_is; closed = closed; left_neutral = left; associative = assoc; commutative = comm }
    where
      closed : (x y : Option A) → IfThere Is x → IfThere Is y → IfThere Is (lifted op x y)
      closed None y h k = tt
      closed (Some x) None h k = tt
      closed (Some x) (Some y) h k = laws.closed x y h k

      left : (x : Option A) → IfThere Is x → lifted op (Some e) x ≡ x
      left None h = refl
      left (Some x) h = ap (λ y. Some y) (laws.left_neutral x h)

      assoc : (x y z : Option A) → IfThere Is x → IfThere Is y → IfThere Is z → lifted op (lifted op x y) z ≡ lifted op x (lifted op y z)
      assoc None y z h k l = refl
      assoc (Some x) None z h k l = refl
      assoc (Some x) (Some y) None h k l = refl
      assoc (Some x) (Some y) (Some z) h k l = ap (λ u. Some u) (laws.associative x y z h k l)

      comm : (x y : Option A) → IfThere Is x → IfThere Is y → lifted op x y ≡ lifted op y x
      comm None None h k = refl
      comm None (Some y) h k = refl
      comm (Some x) None h k = refl
      comm (Some x) (Some y) h k = ap (λ u. Some u) (laws.commutative x y h k)

use Rattle.std.proofs.Common.{zero, suc, ◌≡◌, ℕ, ◌+◌, ◌<◌, ◌≤◌, List, [], ◌∷◌, ◌++◌, length, map, get_or, arith, refl, ap, Some}
use Rattle.std.specs.Prelude.{Vec, slice_get, slice_index}
use Rattle.std.proofs.lemmas.Option.{slice_get_within}
use Rattle.std.specs.Global.{Global}
use Rattle.std.specs.List.{AllZip, Contains}
use Rattle.std.proofs.lemmas.List.Elements.{All-contains, Contains-append_right, Contains-get_or}
use Rattle.sh_ways.specs.declared.search.Edge.{Edge}
use Rattle.sh_ways.specs.Graph.{Graph, HasWay, IsDist, IsFirst, IsTight, Leads, ThePlan, total}
use Rattle.sh_ways.specs.Rows.{AreDists, InRange, IsEdgeOf, IsNumbering, IsTightEdge, edges_at, graph_of}
use Rattle.sh_ways.proofs.Walks.{first_numbered}
use Rattle.sh_ways.proofs.Least.{dist_unique}

-- an element of the second list has its partner in the first, and the other way round
pub zip_back : {A B : Type 0} (R : A → B → Type 0) (xs : List A) (ys : List B) (y : B) → AllZip R xs ys → Contains ys y → (x : A) × Contains xs x × R x y
zip_back R [] [] y h c = absurd (omega (arith, c.1))
zip_back R [] (b ∷ ys) y h c = absurd h
zip_back R (a ∷ xs) [] y h c = absurd h
zip_back R (a ∷ xs) (b ∷ ys) y h (zero, within, is) = (a, (0, omega arith, refl), rw (← is) h.0)
zip_back R (a ∷ xs) (b ∷ ys) y h (suc k, within, is) =
    let r = zip_back R xs ys y h.1 (k, omega arith, is) in
    (r.0, Contains-append_right (a ∷ []) xs r.0 r.1, r.2)

pub zip_forth : {A B : Type 0} (R : A → B → Type 0) (xs : List A) (ys : List B) (x : A) → AllZip R xs ys → Contains xs x → (y : B) × Contains ys y × R x y
zip_forth R [] [] x h c = absurd (omega (arith, c.1))
zip_forth R [] (b ∷ ys) x h c = absurd h
zip_forth R (a ∷ xs) [] x h c = absurd h
zip_forth R (a ∷ xs) (b ∷ ys) x h (zero, within, is) = (b, (0, omega arith, refl), rw (← is) h.0)
zip_forth R (a ∷ xs) (b ∷ ys) x h (suc k, within, is) =
    let r = zip_forth R xs ys x h.1 (k, omega arith, is) in
    (r.0, Contains-append_right (b ∷ []) ys r.0 r.1, r.2)

-- the partner of an element between two parts, and the parts' partners
pub record Split {A B : Type 0} (R : A → B → Type 0) (before : List A) (x : A) (ys : List B) : Type 0 where
  pub first : List B
  pub this : B
  pub rest : List B
  pub parts : ys ≡ first ++ this ∷ rest
  pub zipped : AllZip R before first
  pub stands : R x this

pub zip_split : {A B : Type 0} (R : A → B → Type 0) (before after : List A) (x : A) (ys : List B) → AllZip R (before ++ x ∷ after) ys → Split R before x ys
zip_split R [] after x [] h = absurd h
zip_split R [] after x (y ∷ ys) h = record { first = []; this = y; rest = ys; parts = refl; zipped = tt; stands = h.0 }
zip_split R (a ∷ before) after x [] h = absurd h
zip_split R (a ∷ before) after x (y ∷ ys) h =
    let r = zip_split R before after x ys h.1 in
    record { first = y ∷ r.first; this = r.this; rest = r.rest; parts = ap (λ l. y ∷ l) r.parts; zipped = (h.0, r.zipped); stands = r.stands }

-- a way of moves as a way of edges
pub record Back {S M : Type 0} (g : Graph S M) (keys : List S) (rows : List (Vec (Edge M) Global)) (i : ℕ) (s : S) (ms : List M) (t : S) : Type 0 where
  pub edges : List (Edge M)
  pub end : ℕ
  pub leads : Leads (graph_of rows) i edges end
  pub at_end : slice_get keys end ≡ Some t
  pub same : total (graph_of rows) i edges ≡ total g s ms

pub back : {S M : Type 0} (g : Graph S M) (keys : List S) (rows : List (Vec (Edge M) Global)) → IsNumbering g keys rows →
    (ms : List M) (i : ℕ) (s t : S) → slice_get keys i ≡ Some s → Leads g s ms t → Back g keys rows i s ms t
back g keys rows x [] i s t at e = record { edges = []; end = i; leads = refl; at_end = rw (← e) at; same = refl }
back g keys rows x (mv ∷ ms) i s t at leads =
    let edge = zip_back (IsEdgeOf g keys s) (edges_at rows i) (g.moves s) mv (x.fits i s at) leads.0 in
    let rest : Back g keys rows edge.0.to (g.to s mv) ms t = back g keys rows x ms edge.0.to (g.to s mv) t edge.2.to leads.1 in
    let same : edge.0.cost ≡ g.cost s mv = edge.2.cost in
    record { edges = edge.0 ∷ rest.edges; end = rest.end; leads = (edge.1, rest.leads); at_end = rest.at_end; same = omega (arith, rest.same) }

-- a way of edges as a way of moves
pub forth : {S M : Type 0} (g : Graph S M) (keys : List S) (rows : List (Vec (Edge M) Global)) → IsNumbering g keys rows →
    (es : List (Edge M)) (i j : ℕ) (s t : S) → slice_get keys i ≡ Some s → slice_get keys j ≡ Some t → Leads (graph_of rows) i es j → HasWay g s t (total (graph_of rows) i es)
forth g keys rows x [] i j s t at at_j e = let both : slice_get keys i ≡ Some t = rw e at_j in let same : s ≡ t = cc in record { way = []; leads = same; sum = refl }
forth g keys rows x (e ∷ es) i j s t at at_j leads =
    let mv = zip_forth (IsEdgeOf g keys s) (edges_at rows i) (g.moves s) e (x.fits i s at) leads.0 in
    let rest : HasWay g (g.to s mv.0) t (total (graph_of rows) e.to es) = forth g keys rows x es e.to j (g.to s mv.0) t mv.2.to at_j leads.1 in
    let same : e.cost ≡ g.cost s mv.0 = mv.2.cost in
    record { way = mv.0 ∷ rest.way; leads = (mv.1, rest.leads); sum = omega (arith, rest.sum) }

-- distances are the same, where the goal has one number
pub dist_keyed : {S M : Type 0} (g : Graph S M) (keys : List S) (rows : List (Vec (Edge M) Global)) → IsNumbering g keys rows →
    (goal : ℕ) (t : S) → slice_get keys goal ≡ Some t → ((j : ℕ) → slice_get keys j ≡ Some t → j ≡ goal) →
    (i n : ℕ) (s : S) → slice_get keys i ≡ Some s → IsDist (graph_of rows) i goal n → IsDist g s t n
dist_keyed g keys rows x goal t at_goal one i n s at d =
    let way : HasWay g s t (total (graph_of rows) i d.has.way) = forth g keys rows x d.has.way i goal s t at at_goal d.has.leads in
    record {
      has = rw (← d.has.sum) way;
      least = λ ms leads.
          let b : Back g keys rows i s ms t = back g keys rows x ms i s t at leads in
          let to_goal : Leads (graph_of rows) i b.edges goal = rw (← one b.end b.at_end) b.leads in
          let most : n ≤ total (graph_of rows) i b.edges = d.least b.edges to_goal in
          omega (arith, b.same);
    }

-- what holds of the graph of numbers at its goal, with the distances of all its states
pub record Known {S M : Type 0} (g : Graph S M) (keys : List S) (rows : List (Vec (Edge M) Global)) (goal : ℕ) (t : S) (d : List ℕ) : Type 0 where
  pub numbering : IsNumbering g keys rows
  pub range : InRange rows
  pub at_goal : slice_get keys goal ≡ Some t
  pub one : (j : ℕ) → slice_get keys j ≡ Some t → j ≡ goal
  pub dists : AreDists rows goal d

pub dist_of : {S M : Type 0} (g : Graph S M) (keys : List S) (rows : List (Vec (Edge M) Global)) (goal : ℕ) (t : S) (d : List ℕ) → Known g keys rows goal t d →
    (i : ℕ) (s : S) → slice_get keys i ≡ Some s → IsDist g s t (slice_index d i)
dist_of g keys rows goal t d k i s at =
    let within : i < length rows = omega (arith, slice_get_within keys i s at, k.numbering.same) in
    dist_keyed g keys rows k.numbering goal t k.at_goal k.one i (slice_index d i) s at (k.dists i within)

pub tight_keyed : {S M : Type 0} (g : Graph S M) (keys : List S) (rows : List (Vec (Edge M) Global)) (goal : ℕ) (t : S) (d : List ℕ) → Known g keys rows goal t d →
    (i : ℕ) (s : S) → slice_get keys i ≡ Some s → (e : Edge M) (mv : M) → IsEdgeOf g keys s e mv → IsTightEdge d (slice_index d i) e → IsTight g t s mv
tight_keyed g keys rows goal t d k i s at e mv stands tight =
    let here : IsDist g s t (slice_index d i) = dist_of g keys rows goal t d k i s at in
    let cost : e.cost ≡ g.cost s mv = stands.cost in
    let same : slice_index d i ≡ g.cost s mv + slice_index d e.to = omega arith in
    record { rest = slice_index d e.to; after = dist_of g keys rows goal t d k e.to (g.to s mv) stands.to; sum = rw (← same) here }

pub tight_numbered : {S M : Type 0} (g : Graph S M) (keys : List S) (rows : List (Vec (Edge M) Global)) (goal : ℕ) (t : S) (d : List ℕ) → Known g keys rows goal t d →
    (i : ℕ) (s : S) → slice_get keys i ≡ Some s → (e : Edge M) (mv : M) → IsEdgeOf g keys s e mv → IsTight g t s mv → IsTightEdge d (slice_index d i) e
tight_numbered g keys rows goal t d k i s at e mv stands tight =
    let whole : slice_index d i ≡ g.cost s mv + tight.rest = dist_unique g s t (slice_index d i) (g.cost s mv + tight.rest) (dist_of g keys rows goal t d k i s at) tight.sum in
    let part : slice_index d e.to ≡ tight.rest = dist_unique g (g.to s mv) t (slice_index d e.to) tight.rest (dist_of g keys rows goal t d k e.to (g.to s mv) stands.to) tight.after in
    let cost : e.cost ≡ g.cost s mv = stands.cost in
    omega arith

-- the first tight edge stands for the first tight move
pub first_keyed : {S M : Type 0} (g : Graph S M) (keys : List S) (rows : List (Vec (Edge M) Global)) (goal : ℕ) (t : S) (d : List ℕ) → Known g keys rows goal t d →
    (i : ℕ) (s : S) → slice_get keys i ≡ Some s → (e : Edge M) → IsFirst (IsTightEdge d (slice_index d i)) (edges_at rows i) e →
    (mv : M) × IsEdgeOf g keys s e mv × IsFirst (IsTight g t s) (g.moves s) mv
first_keyed g keys rows goal t d k i s at e f =
    let split : Split (IsEdgeOf g keys s) f.before e (g.moves s) = zip_split (IsEdgeOf g keys s) f.before f.after e (g.moves s) (rw f.parts at (k.numbering.fits i s at)) in (
      split.this,
      split.stands,
      record {
        before = split.first;
        after = split.rest;
        parts = split.parts;
        none = λ n x n_in tight.
            let there = zip_back (IsEdgeOf g keys s) f.before split.first (get_or split.first n x) split.zipped (Contains-get_or split.first n x n_in) in
            All-contains (λ y. IsTightEdge d (slice_index d i) y → ⊥) f.before there.0 f.none there.1
            (tight_numbered g keys rows goal t d k i s at there.0 (get_or split.first n x) there.2 tight);
        this = tight_keyed g keys rows goal t d k i s at e split.this split.stands f.this;
      },
    )

-- edges that are each the first tight one are the plan of their moves
pub plan_keyed : {S M : Type 0} (g : Graph S M) (keys : List S) (rows : List (Vec (Edge M) Global)) (goal : ℕ) (t : S) (d : List ℕ) → Known g keys rows goal t d →
    (es : List (Edge M)) (i : ℕ) (s : S) → slice_get keys i ≡ Some s → ThePlan (graph_of rows) i es goal → ThePlan g s (map (λ e. e.by) es) t
plan_keyed g keys rows goal t d k [] i s at e =
    let there : slice_get keys i ≡ Some t = rw e k.at_goal in
    let same : s ≡ t = cc in
    same
plan_keyed g keys rows goal t d k (e ∷ es) i s at p =
    let within : i < length rows = omega (arith, slice_get_within keys i s at, k.numbering.same) in
    let numbered : IsFirst (IsTightEdge d (slice_index d i)) (edges_at rows i) e = first_numbered rows goal d i e k.range k.dists within p.1 in
    let mv = first_keyed g keys rows goal t d k i s at e numbered in
    let rest : ThePlan g (g.to s mv.0) (map (λ e'. e'.by) es) t = plan_keyed g keys rows goal t d k es e.to (g.to s mv.0) mv.1.to p.2 in
    rw mv.1.by ((λ s_t. p.0 (k.one i (rw s_t at at)), mv.2, rest))

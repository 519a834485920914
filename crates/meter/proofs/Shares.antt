-- What nodes count in parts of which each node of the whole lies in exactly one: it adds up to what the nodes of the whole count.
use Rattle.std.proofs.Common.{◌≡◌, ◌+◌, Bool, true, false, cond, List, [], ◌∷◌, sym, refl, ap, ◌∙◌, arith}
use Rattle.wire.specs.Choice.{bit}
use Rattle.tally.specs.Rows.{Counts}
use Rattle.position.specs.declared.part.Part.{Part}
use Rattle.meter.specs.Standing.{Node, in_part, filter_nodes}
use Rattle.meter.specs.Cuts.{shares}

module _ (S : Counts) where
  abbrev C : Type 0
  C = S.C

  abbrev add : C → C → C
  add = S.add

  abbrev none : C
  none = S.none

  -- ---- what one node counts in the parts where it lies
  abbrev owns : C → Node → List Part → C
  owns c x [] = none
  owns c x (p ∷ ps) = add (cond (in_part p x) c none) (owns c x ps)

  -- in no part, and in one
  owns_none : (c : C) (x : Node) (ps : List Part) → shares ps x ≡ 0 → owns c x ps ≡ none
  owns_none c x [] h = refl
  owns_none c x (p ∷ ps) h = go (in_part p x) refl h (owns_none c x ps)
    where
      go : (b : Bool) → in_part p x ≡ b → bit b + shares ps x ≡ 0 → (shares ps x ≡ 0 → owns c x ps ≡ none) → add (cond b c none) (owns c x ps) ≡ none
      go true e k ih = absurd (omega arith)
      go false e k ih = S.add_none _ ∙ ih (omega arith)

  owns-one : (c : C) (x : Node) (ps : List Part) → shares ps x ≡ 1 → owns c x ps ≡ c
  owns-one c x [] h = absurd (omega arith)
  owns-one c x (p ∷ ps) h = go (in_part p x) refl h (owns-one c x ps)
    where
      go : (b : Bool) → in_part p x ≡ b → bit b + shares ps x ≡ 1 → (shares ps x ≡ 1 → owns c x ps ≡ c) → add (cond b c none) (owns c x ps) ≡ c
      go true e k ih = ap (add c) (owns_none c x ps (omega arith)) ∙ S.add_comm c none ∙ S.add_none c
      go false e k ih = S.add_none _ ∙ ih (omega arith)

  owns_as : (c : C) (x : Node) (ps : List Part) (b : Bool) → shares ps x ≡ bit b → owns c x ps ≡ cond b c none
  owns_as c x ps true h = owns-one c x ps h
  owns_as c x ps false h = owns_none c x ps h

  -- two sums change their middle terms
  swap : (a b c d : C) → add (add a b) (add c d) ≡ add (add a c) (add b d)
  swap a b c d = S.add_assoc a b (add c d) ∙ ap (add a) (sym (S.add_assoc b c d) ∙ ap (λ (y : C). add y d) (S.add_comm b c) ∙ S.add_assoc c b d) ∙ sym (S.add_assoc a c (add b d))

  module _ (of : Node → C) where
    -- ---- what nodes count together, by what each of them counts, and in each part, together
    abbrev pub total : List Node → C
    total [] = none
    total (x ∷ l) = add (of x) (total l)

    abbrev pub totals : List Node → List Part → C
    totals l [] = none
    totals l (p ∷ ps) = add (total (filter_nodes (in_part p) l)) (totals l ps)

    -- the first node of a list, where it passes the test
    total_first : (test : Node → Bool) (x : Node) (l : List Node) → total (filter_nodes test (x ∷ l)) ≡ add (cond (test x) (of x) none) (total (filter_nodes test l))
    unfolding filter_nodes
    total_first test x l = go (test x)
      where
        go : (b : Bool) → total (cond b (x ∷ filter_nodes test l) (filter_nodes test l)) ≡ add (cond b (of x) none) (total (filter_nodes test l))
        go true = refl
        go false = sym (S.add_none _)

    totals-first : (x : Node) (l : List Node) (ps : List Part) → totals (x ∷ l) ps ≡ add (owns (of x) x ps) (totals l ps)
    totals-first x l [] = sym (S.add_none none)
    totals-first x l (p ∷ ps) =
        ap (λ (y : C). add y (totals (x ∷ l) ps)) (total_first (in_part p) x l) ∙ ap (add (add (cond (in_part p x) (of x) none) (total (filter_nodes (in_part p) l)))) (totals-first x l ps) ∙ swap _ _ _ _

    totals-nothing : (ps : List Part) → totals [] ps ≡ none
    unfolding filter_nodes
    totals-nothing [] = refl
    totals-nothing (p ∷ ps) = S.add_none _ ∙ totals-nothing ps

    nothing-there : (p : Part) → total (filter_nodes (in_part p) []) ≡ none
    unfolding filter_nodes
    nothing-there p = refl

    -- ---- the parts' totals add up to the whole's
    pub totals-whole : (whole : Part) (ps : List Part) → ((x : Node) → shares ps x ≡ bit (in_part whole x)) → (l : List Node) → totals l ps ≡ total (filter_nodes (in_part whole) l)
    totals-whole whole ps h [] = totals-nothing ps ∙ sym (nothing-there whole)
    totals-whole whole ps h (x ∷ l) =
        totals-first x l ps ∙ ap (λ (y : C). add y (totals l ps)) (owns_as (of x) x ps (in_part whole x) (h x)) ∙ ap (add (cond (in_part whole x) (of x) none)) (totals-whole whole ps h l)
        ∙ sym (total_first (in_part whole) x l)

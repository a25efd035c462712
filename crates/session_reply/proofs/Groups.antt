-- What a frame comes to, by its group. Assumes nothing.
use mathlib.Core.Path.{◌≡◌, sym, ◌∙◌}
use mathlib.Core.Bool.{Bool}
use mathlib.Core.List.{List}
use Prim.Native.Nat.{ℕ}
use borrow.Author.Tests.{eq-eqb, ne_eqb}
use lib.ListN.{length}
use Rattle.area.proofs.Marks.{cond_true, cond_false}
use Rattle.session_frame.specs.declared.Frame.{Frame}
use Rattle.state.specs.declared.State.{State}
use Rattle.state.specs.Places.{file_at}
use Rattle.session_reply.specs.Places.{group_of, named_file}
use Rattle.session_reply.specs.Turns.{record_area, record_turn, binding_turn, request_turn, whole_turn, routine_turn, turned_on, request_area_on, area_on}

module _ (unsound : Bool) (s : State) (area : List ℕ) (frame : Frame) (words : List ℕ) (g : ℕ) (is : g ≡ group_of frame) where
  pub as_request_lem : g ≡ 1 → (turned_on unsound s area frame words ≡ request_turn unsound s area frame words) × (area_on unsound s area frame words ≡ request_area_on unsound s area frame words)
  unfolding turned_on area_on
  as_request_lem e = let t = eq-eqb (group_of frame) 1 (sym is ∙ e) in (cond_true _ _ t, cond_true _ _ t)

  module _ (n1 : g ≡ 1 → ⊥) where
    pub as_whole : g ≡ 3 → (turned_on unsound s area frame words ≡ whole_turn unsound s (length area) frame) × (area_on unsound s area frame words ≡ area)
    unfolding turned_on area_on
    as_whole e =
        let f = ne_eqb (group_of frame) 1 (λ z. n1 (is ∙ z)) in
        let t = eq-eqb (group_of frame) 3 (sym is ∙ e) in
        (cond_false _ _ f ∙ cond_true _ _ t, cond_false _ _ f ∙ cond_true _ _ t)

    module _ (n3 : g ≡ 3 → ⊥) where
      pub as_routine : g ≡ 4 → (turned_on unsound s area frame words ≡ routine_turn unsound s frame) × (area_on unsound s area frame words ≡ area)
      unfolding turned_on area_on
      as_routine e =
          let f = ne_eqb (group_of frame) 1 (λ z. n1 (is ∙ z)) in
          let f₃ = ne_eqb (group_of frame) 3 (λ z. n3 (is ∙ z)) in
          let t = eq-eqb (group_of frame) 4 (sym is ∙ e) in
          (cond_false _ _ f ∙ cond_false _ _ f₃ ∙ cond_true _ _ t, cond_false _ _ f ∙ cond_false _ _ f₃ ∙ cond_true _ _ t)

      module _ (n4 : g ≡ 4 → ⊥) where
        pub as_binding : g ≡ 2 → (turned_on unsound s area frame words ≡ binding_turn unsound s frame) × (area_on unsound s area frame words ≡ area)
        unfolding turned_on area_on
        as_binding e =
            let f = ne_eqb (group_of frame) 1 (λ z. n1 (is ∙ z)) in
            let f₃ = ne_eqb (group_of frame) 3 (λ z. n3 (is ∙ z)) in
            let f₄ = ne_eqb (group_of frame) 4 (λ z. n4 (is ∙ z)) in
            let t = eq-eqb (group_of frame) 2 (sym is ∙ e) in
            (cond_false _ _ f ∙ cond_false _ _ f₃ ∙ cond_false _ _ f₄ ∙ cond_true _ _ t, cond_false _ _ f ∙ cond_false _ _ f₃ ∙ cond_false _ _ f₄ ∙ cond_true _ _ t)

        pub as_record : (g ≡ 2 → ⊥) → (turned_on unsound s area frame words ≡ record_turn unsound s area frame words)
            × (area_on unsound s area frame words ≡ record_area unsound s.m s.w frame (file_at s (named_file frame)) area words)
        unfolding turned_on area_on
        as_record n2 =
            let f = ne_eqb (group_of frame) 1 (λ z. n1 (is ∙ z)) in
            let f₃ = ne_eqb (group_of frame) 3 (λ z. n3 (is ∙ z)) in
            let f₄ = ne_eqb (group_of frame) 4 (λ z. n4 (is ∙ z)) in
            let f₂ = ne_eqb (group_of frame) 2 (λ z. n2 (is ∙ z)) in
            (cond_false _ _ f ∙ cond_false _ _ f₃ ∙ cond_false _ _ f₄ ∙ cond_false _ _ f₂, cond_false _ _ f ∙ cond_false _ _ f₃ ∙ cond_false _ _ f₄ ∙ cond_false _ _ f₂)

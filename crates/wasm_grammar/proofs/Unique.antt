-- No two trees have the same walk.
use Rattle.std.proofs.Common.{◌≡◌, ℕ, List, [], ◌∷◌, ◌++◌, refl, sym, subst, ◌∙◌, append_assoc}
use Rattle.wasm_grammar.specs.Role.{Role, opens, opens_if, opens_try, turns_else, turns_catch, turns_catch_all, delegates, ends}
use Rattle.wasm_grammar.specs.Tree.{Instruction, single, nest, if_one, if_two, try_handle, try_delegate, Instructions, nil, cons, Handlers, no_more, for_all, for_tag, walk_instruction, walk_instructions, walk_handlers, Expression, walk}

abbrev EndsBody : {A : Type 0} → List (Role A) → Type 0
EndsBody [] = ⊥
EndsBody (turns_else ∷ roles) = Unit {0}
EndsBody (turns_catch tag ∷ roles) = Unit {0}
EndsBody (turns_catch_all ∷ roles) = Unit {0}
EndsBody (delegates depth ∷ roles) = Unit {0}
EndsBody (ends ∷ roles) = Unit {0}
EndsBody (_ ∷ roles) = ⊥

regrouped : {A : Type 0} (s t : Role A) (a b x y p q : List (Role A)) →
    s ∷ ((a ++ x) ++ p) ≡ t ∷ ((b ++ y) ++ q) → a ++ (x ++ p) ≡ b ++ (y ++ q)
regrouped s t a b x y p q e =
    let tails : (a ++ x) ++ p ≡ (b ++ y) ++ q = cc in
    sym (append_assoc a x p) ∙ tails ∙ append_assoc b y q

handlers_end_body : {A : Type 0} (h : Handlers A) (p : List (Role A)) → EndsBody (walk_handlers h ++ p)
handlers_end_body no_more p = tt
handlers_end_body (for_all body) p = tt
handlers_end_body (for_tag tag body more) p = tt

handlers_no_delegate : {A : Type 0} (h : Handlers A) (depth : ℕ) (p q : List (Role A)) →
    walk_handlers h ++ p ≡ delegates depth ∷ q → ⊥
handlers_no_delegate no_more depth p q e = cc
handlers_no_delegate (for_all body) depth p q e = cc
handlers_no_delegate (for_tag tag body more) depth p q e = cc

no_instruction : {A : Type 0} (i : Instruction A) (p x : List (Role A)) → EndsBody p → p ≡ walk_instruction i ++ x → ⊥
no_instruction (single a) p x ends_body e = subst EndsBody e ends_body
no_instruction (nest n a is) p x ends_body e = subst EndsBody e ends_body
no_instruction (if_one a is) p x ends_body e = subst EndsBody e ends_body
no_instruction (if_two a is js) p x ends_body e = subst EndsBody e ends_body
no_instruction (try_handle a is h) p x ends_body e = subst EndsBody e ends_body
no_instruction (try_delegate a is depth) p x ends_body e = subst EndsBody e ends_body

-- if two walks with roles after them are equal, so are the trees and these roles
mutual
  same_instruction : {A : Type 0} (i j : Instruction A) (p q : List (Role A)) →
      walk_instruction i ++ p ≡ walk_instruction j ++ q → (i ≡ j) × (p ≡ q)
  same_instruction (single a) (single b) p q e = (cc, cc)
  same_instruction (nest n a is) (nest m b js) p q e =
      let h = same_instructions is js (ends ∷ p) (ends ∷ q) tt tt
      (regrouped (opens n a) (opens m b) (walk_instructions is) (walk_instructions js) (ends ∷ []) (ends ∷ []) p q e) in
      (cc (e, h.0), cc h.1)
  same_instruction (if_one a is) (if_one b js) p q e =
      let h = same_instructions is js (ends ∷ p) (ends ∷ q) tt tt
      (regrouped (opens_if a) (opens_if b) (walk_instructions is) (walk_instructions js) (ends ∷ []) (ends ∷ []) p q e) in
      (cc (e, h.0), cc h.1)
  same_instruction (if_one a is) (if_two b js ks) p q e =
      let h = same_instructions is js (ends ∷ p) (turns_else ∷ ((walk_instructions ks ++ ends ∷ []) ++ q)) tt tt
      (regrouped (opens_if a) (opens_if b) (walk_instructions is) (walk_instructions js) (ends ∷ []) (turns_else ∷ (walk_instructions ks ++ ends ∷ [])) p
      q e) in
      absurd (cc h.1)
  same_instruction (if_two b js ks) (if_one a is) p q e =
      let h = same_instructions js is (turns_else ∷ ((walk_instructions ks ++ ends ∷ []) ++ p)) (ends ∷ q) tt tt
      (regrouped (opens_if b) (opens_if a) (walk_instructions js) (walk_instructions is) (turns_else ∷ (walk_instructions ks ++ ends ∷ [])) (ends ∷ []) p
      q e) in
      absurd (cc h.1)
  same_instruction (if_two a is ks) (if_two b js ls) p q e =
      let h = same_instructions is js (turns_else ∷ ((walk_instructions ks ++ ends ∷ []) ++ p)) (turns_else ∷ ((walk_instructions ls ++ ends ∷ []) ++ q)) tt
      tt (regrouped (opens_if a) (opens_if b) (walk_instructions is) (walk_instructions js) (turns_else ∷ (walk_instructions ks ++ ends ∷ []))
      (turns_else ∷ (walk_instructions ls ++ ends ∷ [])) p q e) in
      let g = same_instructions ks ls (ends ∷ p) (ends ∷ q) tt tt
      (regrouped turns_else turns_else (walk_instructions ks) (walk_instructions ls) (ends ∷ []) (ends ∷ []) p q h.1) in
      (cc (e, h.0, g.0), cc g.1)
  same_instruction (try_handle a is h) (try_handle b js g) p q e =
      let x = same_instructions is js (walk_handlers h ++ p) (walk_handlers g ++ q) (handlers_end_body h p) (handlers_end_body g q)
      (regrouped (opens_try a) (opens_try b) (walk_instructions is) (walk_instructions js) (walk_handlers h) (walk_handlers g) p q e) in
      let y = same_handlers h g p q x.1 in
      (cc (e, x.0, y.0), y.1)
  same_instruction (try_handle a is h) (try_delegate b js depth) p q e =
      let x = same_instructions is js (walk_handlers h ++ p) (delegates depth ∷ q) (handlers_end_body h p) tt
      (regrouped (opens_try a) (opens_try b) (walk_instructions is) (walk_instructions js) (walk_handlers h) (delegates depth ∷ []) p q e) in
      absurd (handlers_no_delegate h depth p q x.1)
  same_instruction (try_delegate b js depth) (try_handle a is h) p q e =
      let x = same_instructions js is (delegates depth ∷ p) (walk_handlers h ++ q) tt (handlers_end_body h q)
      (regrouped (opens_try b) (opens_try a) (walk_instructions js) (walk_instructions is) (delegates depth ∷ []) (walk_handlers h) p q e) in
      absurd (handlers_no_delegate h depth q p (sym x.1))
  same_instruction (try_delegate a is m) (try_delegate b js n) p q e =
      let h = same_instructions is js (delegates m ∷ p) (delegates n ∷ q) tt tt
      (regrouped (opens_try a) (opens_try b) (walk_instructions is) (walk_instructions js) (delegates m ∷ []) (delegates n ∷ []) p q e) in
      (cc (e, h.0, h.1), cc h.1)
  same_instruction _ _ p q e = absurd (cc e)

  same_instructions : {A : Type 0} (is js : Instructions A) (p q : List (Role A)) →
      EndsBody p → EndsBody q → walk_instructions is ++ p ≡ walk_instructions js ++ q → (is ≡ js) × (p ≡ q)
  same_instructions nil nil p q end_p end_q e = (refl, e)
  same_instructions nil (cons j js) p q end_p end_q e =
      absurd (no_instruction j p (walk_instructions js ++ q) end_p (e ∙ append_assoc (walk_instruction j) (walk_instructions js) q))
  same_instructions (cons i is) nil p q end_p end_q e =
      absurd (no_instruction i q (walk_instructions is ++ p) end_q (sym e ∙ append_assoc (walk_instruction i) (walk_instructions is) p))
  same_instructions (cons i is) (cons j js) p q end_p end_q e =
      let h = same_instruction i j (walk_instructions is ++ p) (walk_instructions js ++ q) (sym (append_assoc (walk_instruction i) (walk_instructions is) p) ∙
      e ∙ append_assoc (walk_instruction j) (walk_instructions js) q) in
      let g = same_instructions is js p q end_p end_q h.1 in
      (cc (h.0, g.0), g.1)

  same_handlers : {A : Type 0} (h g : Handlers A) (p q : List (Role A)) →
      walk_handlers h ++ p ≡ walk_handlers g ++ q → (h ≡ g) × (p ≡ q)
  same_handlers no_more no_more p q e = (refl, cc e)
  same_handlers (for_all is) (for_all js) p q e =
      let h = same_instructions is js (ends ∷ p) (ends ∷ q) tt tt
      (regrouped turns_catch_all turns_catch_all (walk_instructions is) (walk_instructions js) (ends ∷ []) (ends ∷ []) p q e) in
      (cc h.0, cc h.1)
  same_handlers (for_tag m is h) (for_tag n js g) p q e =
      let x = same_instructions is js (walk_handlers h ++ p) (walk_handlers g ++ q) (handlers_end_body h p) (handlers_end_body g q)
      (regrouped (turns_catch m) (turns_catch n) (walk_instructions is) (walk_instructions js) (walk_handlers h) (walk_handlers g) p q e) in
      let y = same_handlers h g p q x.1 in
      (cc (e, x.0, y.0), y.1)
  same_handlers _ _ p q e = absurd (cc e)

pub one_tree : {A : Type 0} (first second : Expression A) → walk first ≡ walk second → first ≡ second
one_tree first second e = (same_instructions first second (ends ∷ []) (ends ∷ []) tt tt e).0

-- Writing globals and tables.
use Rattle.std.proofs.Common.{◌≡◌, ℕ, ◌++◌, Bool, true, false, List, [], ◌∷◌, length, refl, sym, subst, ap, ◌∙◌, arith}
use Rattle.std.proofs.lemmas.Bool.{eqb-true, ne_eqb}
use Rattle.std.specs.Prelude.{◌==◌}
use Rattle.wasm_below.specs.declared.features.WasmFeatures.{WasmFeatures}
use Rattle.wasm_below.specs.declared.message.Message.{Message}
use Rattle.wasm_below.specs.Reference.{Reference}
use Rattle.wasm_below.specs.TypeEncoding.{EncodesRefType}
use Rattle.wasm_below.proofs.TypeEncodings.{ref_empty, ref_leads}
use Rattle.wasm_externals.specs.declared.global_type.GlobalType.{GlobalType}
use Rattle.wasm_externals.specs.declared.table_type.TableType.{TableType}
use Rattle.wasm_externals.specs.Globals.{global_type}
use Rattle.wasm_externals.specs.Limits.{table_type}
use Rattle.wasm_grammars.specs.Grammar.{Grammar, done, bind, thing, Leads, Encodes}
use Rattle.wasm_grammars.specs.Parts.{byte}
use Rattle.wasm_segments.specs.declared.global.Global.{Global}
use Rattle.wasm_segments.specs.declared.table.Table.{Table}
use Rattle.wasm_segments.specs.declared.table.TableInit.{TableInit}
use Rattle.wasm_segments.specs.declared.table.TableInit.TheVariants as init
use Rattle.wasm_segments.specs.Globals.{zero_byte, initialized_table, null_table, global, table}
use Rattle.wasm_write_grammars.specs.Writing.{Writes}
use Rattle.wasm_encode_sections.specs.SegmentReasons.{InitReason}
use Rattle.wasm_write_grammars.proofs.Owing.{Owes, Only, owes, wrote, meets, led, unled, of_thing, paid}

-- ---- globals

abbrev pub global_of : {C : Type 0} → GlobalType → C → Global C
global_of t v = record { ty = t; init_expr = v }

pub only_global_type : {C : Type 0} (p : Grammar C) (x : Global C) → Only (thing global_type) (λ t. bind (thing p) (λ v. done (global_of t v))) x x.ty
only_global_type {C} p x z place at first after q (a, b, v, e, r, (none, same)) = sym (ap (λ (k : Global C). k.ty) same)

pub only_value : {C : Type 0} (p : Grammar C) (x : Global C) (t : GlobalType) → Only (thing p) (λ v. done (global_of t v)) x x.init_expr
only_value {C} p x t z place at first after q (none, same) = sym (ap (λ (k : Global C). k.init_expr) same)

-- ---- tables

pub zero_written : {old new : List ℕ} → Writes byte 0 old new → Writes zero_byte 0 old new
zero_written {old} w = paid (meets (wrote (owes zero_byte 0 old) 0 (λ z place at first after p (is, (none, same)). sym same) w) refl) refl

only_zero : (place : ℕ) (text : List ℕ) (z : ℕ) → Encodes zero_byte place text z → z ≡ 0
only_zero place text z (first, after, b, e, p, (is, (none, same))) = same ∙ eqb-true b 0 is

-- A reference type does not start with the byte 0x40.
ref_first : (text : List ℕ) (r : Reference) → EncodesRefType text r → Leads (λ b. b == 0x40) false text
ref_first [] r p = absurd (ref_empty r p)
ref_first (b ∷ tail) r p = (b, tail, refl, ne_eqb b 0x40 (λ e. (let low = (ref_leads b tail r p).0 in omega (arith, low, e))))

null_first : {C : Type 0} (f : WasmFeatures) (place : ℕ) (text : List ℕ) (x : Table C) → Encodes (null_table f) place text x → Leads (λ b. b == 0x40) false text
null_first f place text x (first, rest, t, e, (a, c, r, g, p, q), _) =
    let (b, tail, h, is) = ref_first a r p in
    (b, (tail ++ c) ++ rest, e ∙ ap (λ z. z ++ rest) (g ∙ ap (λ z. z ++ c) h), is)

pub init_reason : {C : Type 0} (Why : C → Message → Type 0) (v : C) {i : TableInit C} {m : Message} → i ≡ init.Expr v → Why v m → InitReason Why i m
init_reason Why v {i} {m} is why = subst (λ k. InitReason Why k m) (sym is) why

module _ {C : Type 0} (f : WasmFeatures) (p : Grammar C) (x : Table C) (old : List ℕ) where
  no_value : x.init ≡ init.RefNull → (place : ℕ) (text : List ℕ) → Encodes (initialized_table f p) place text x → ⊥
  no_value is place text (a, b, n, e, q, (c, d, m, g, r, (i, j, t, h, s, (k, l, v, o, u, (none, same))))) =
      let clash : init.RefNull ≡ init.Expr v = sym is ∙ ap (λ (z : Table C). z.init) same in
      cc clash

  no_null : (v : C) → x.init ≡ init.Expr v → (place : ℕ) (text : List ℕ) → Encodes (null_table f) place text x → ⊥
  no_null v is place text (a, b, t, e, q, (none, same)) =
      let clash : init.Expr v ≡ init.RefNull = sym is ∙ ap (λ (z : Table C). z.init) same in
      cc clash

  pub null_starts : x.init ≡ init.RefNull → Owes (table f p) x old (null_table f) old
  null_starts is = unled (owes (table f p) x old) (λ place text e. null_first f place text x e) (λ place text lead e. absurd (no_value is place text e))

  pub only_null : Only (thing (table_type f)) (λ t. done (record { ty = t; init = init.RefNull })) x x.ty
  only_null z place at first after q (none, same) = sym (ap (λ (k : Table C). k.ty) same)

  pub null_written : x.init ≡ init.RefNull → {new : List ℕ} → Writes (table_type f) x.ty old new → Writes (table f p) x old new
  null_written is w = paid (wrote (null_starts is) x.ty only_null (of_thing w)) (ap (λ k. record { ty = x.ty; init = k }) is)

  module _ (v : C) (is : x.init ≡ init.Expr v) {one : List ℕ} (first : Writes byte 0x40 old one) where
    pub announced : Owes (table f p) x old (bind (thing zero_byte) (λ z. bind (thing (table_type f)) (λ t. bind (thing p) (λ u. done (record { ty = t; init = init.Expr u }))))) one
    announced = led (owes (table f p) x old) 0x40 refl (λ c place text lead e. eqb-true c 0x40 lead) (λ place text lead e. no_null v is place text e) first

    pub zero_starts : {two : List ℕ} → Writes zero_byte 0 one two → Owes (table f p) x old (bind (thing (table_type f)) (λ t. bind (thing p) (λ u. done (record { ty = t; init = init.Expr u })))) two
    zero_starts w = wrote announced 0 (λ z place at first after q e. only_zero place first z q) (of_thing w)

    pub only_type_of_table : Only (thing (table_type f)) (λ t. bind (thing p) (λ u. done (record { ty = t; init = init.Expr u }))) x x.ty
    only_type_of_table z place at first after q (a, b, u, e, r, (none, same)) = sym (ap (λ (k : Table C). k.ty) same)

    pub only_init : (t : TableType) → Only (thing p) (λ u. done (record { ty = t; init = init.Expr u })) x v
    only_init t z place at first after q (none, same) =
        let inits : init.Expr v ≡ init.Expr z = sym is ∙ ap (λ (k : Table C). k.init) same in
        sym (cc inits)

    pub type_starts : {two three : List ℕ} → Writes zero_byte 0 one two → Writes (table_type f) x.ty two three → Owes (table f p) x old (bind (thing p) (λ u. done (record { ty = x.ty; init = init.Expr u }))) three
    type_starts w u = wrote (zero_starts w) x.ty only_type_of_table (of_thing u)

    pub init_written : {two three new : List ℕ} → Writes zero_byte 0 one two → Writes (table_type f) x.ty two three → Writes p v three new → Writes (table f p) x old new
    init_written w u t = paid (wrote (type_starts w u) v (only_init x.ty) (of_thing t)) (ap (λ k. record { ty = x.ty; init = k }) is)

use Rattle.std.specs.Prelude.{Bool, nat_eq}
use Rattle.std.specs.Ordering.{on}
use Rattle.std.specs.Cmp.{IsPartialEquivalence, IsEquivalence, partial_equiv_from_equiv, on_equiv}
use Rattle.std.specs.Cmp.Lexicographic.{pointwise, nat_list_eq_equiv}
use Rattle.wasm_below.specs.Source.{Reader, rest}

abbrev pub same_bytes : Reader → Reader → Bool
same_bytes = on rest (pointwise nat_eq)

pub same_bytes_equiv : IsEquivalence same_bytes
same_bytes_equiv = on_equiv rest nat_list_eq_equiv

pub same_bytes_partial : IsPartialEquivalence same_bytes
same_bytes_partial = partial_equiv_from_equiv same_bytes_equiv

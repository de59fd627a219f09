-- Indices of what a module has. Specification: Modules, Indices.
use Rattle.std.specs.Prelude.{ℕ, ◌+◌, ◌-◌, ◌^◌, min}
use Rattle.wasm_details.specs.declared.place.Place.{Place}

-- The index after this one; at most 4294967295.
abbrev pub after_index : ℕ → ℕ
after_index index = min (index + 1) (2 ^ 32 - 1)

-- The place after one item.
abbrev pub after_one : Place → Place
after_one p = record { next = after_index p.next; address = p.address; imported = p.imported }

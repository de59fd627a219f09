-- A context that has nothing but types.
use Rattle.std.specs.Prelude.{false, [], None}
use Rattle.wasm_typing.specs.Matching.{TypeOrder}
use Rattle.wasm_check_control.specs.Environment.{Environment}

-- All that matching asks.
abbrev pub only : TypeOrder → Environment
only O = record {
  order = O;
  types = λ i. None;
  structures = λ i. None;
  arrays = λ i. None;
  functions = λ i. None;
  locals = λ i. None;
  globals = λ i. None;
  tables = λ i. None;
  memories = λ i. None;
  tags = λ i. None;
  elements = λ i. None;
  has_data = λ i. false;
  is_declared = λ i. false;
  type_indices = λ i. None;
  results = [];
}

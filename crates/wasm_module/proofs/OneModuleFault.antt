-- A module has at most one fault; none, except `Memory`, if its functions are known.
use Rattle.std.proofs.Common.{◌≡◌, ◌<◌, ℕ, List, [], ◌++◌, length, replicate, Option, Some, None, refl, sym, subst, ap, ◌∙◌, inl, inr, arith}
use Rattle.std.specs.Int.{w32}
use Rattle.std.specs.List.{All}
use Rattle.wasm_below.specs.declared.error.Error.{Error}
use Rattle.wasm_below.specs.Fault.{DeterminesRefusal}
use Rattle.wasm_below.specs.Number.{EncodesUnsigned, EncodesFixed}
use Rattle.wasm_below.specs.Sequence.{PrefixCode}
use Rattle.wasm_below.specs.Source.{Reader, offset_of, U32Fault, IsRefusal, HasRead}
use Rattle.wasm_module.specs.Exports.{EncodesExport, ExportFault}
use Rattle.wasm_module.specs.Imports.{ImportParts, EncodesImport, ImportFault}
use Rattle.wasm_module.specs.Module.{PreambleFault, SectionFault}
use Rattle.wasm_module.specs.Types.{EncodesSubType, SubTypeFault, EncodesRecTypeLength, RecTypeLengthFault}
use Rattle.wasm_module.specs.Items.{IsList}
use Rattle.wasm_module.specs.ModuleFunctions.{ModuleFunctions, IsKnownImport, CountsImports, ListsTypes, DescribesFunctions}
use Rattle.wasm_module.specs.FunctionNames.{NamesExported}
use Rattle.wasm_module.specs.Parameters.{CountsParameters}
use Rattle.wasm_module.specs.Refusals.{ListFault, IsAny, TypesFault, ImportsFault, FunctionsFault, ExportsFault, SectionFaultAt, HasTypes, HasImports, HasFunctions, NamesFault, ModuleFunctionsFault}
use Rattle.wasm_module.specs.Sections.{IsSection}
use Rattle.wasm_module.specs.declared.fault.ModuleFault.{ModuleFault}
use Rattle.wasm_module.specs.declared.fault.ModuleFault.TheVariants as fault
use Rattle.wasm_module.proofs.NamedFunctions.{not_both}
use Rattle.wasm_module.proofs.NextItems.{one_read}
use Rattle.wasm_module.proofs.OneFault.{fault_or_module, one_fault}
use Rattle.wasm_module.proofs.OneListFault.{one_refusal, no_refusal, refused_there, one_stop, no_stop, one_list_fault, no_list_fault}
use Rattle.wasm_module.proofs.OneTypesFault.{IsNotMemory, no_types_fault, one_types_fault}
use Rattle.wasm_module.proofs.Refused.{any_items}
use Rattle.wasm_module.proofs.Unique.{one_found}

-- ---- imports

module _ (numbers : PrefixCode (EncodesUnsigned 32)) (code : PrefixCode EncodesImport) where
  unknown_there : (r after : Reader) (i : ImportParts) (byte : ℕ) → HasRead EncodesImport i r after → i.kind ≡ byte → 4 < byte →
      (x : ImportParts) → (next : Reader) → HasRead EncodesImport x r next → IsKnownImport x → ⊥
  unknown_there r after i byte reads is above x next reads' known =
      let same = ap (λ (z : ImportParts). z.kind) (one_read EncodesImport code r after next i x reads reads').0 in omega (arith, is, above, same, known)

  refused_or_unknown : (e : Error) (byte offset : ℕ) (contents : Reader) → ImportsFault (fault.Refused e) contents →
      ImportsFault (fault.ImportKind byte offset) contents → ⊥
  refused_or_unknown e byte offset contents (inl p) (b, k, at, i, after, reads, is, above) =
      not_both (EncodesUnsigned 32) e contents k.first k.announced p.0 k.count
  refused_or_unknown e byte offset contents (inr (a, h, p)) (b, k, at, i, after, reads, is, above) =
      let same = one_stop EncodesImport code IsKnownImport numbers contents a b h k (refused_there EncodesImport IsKnownImport e a p.0)
      (unknown_there b after i byte reads is above) in
      not_both EncodesImport e b after i (subst (λ z. IsRefusal EncodesImport e z) same p.0) reads

  no_imports_fault : (f : ModuleFault) (contents : Reader) (is : List ImportParts) → ImportsFault f contents → IsList EncodesImport contents is →
      All IsKnownImport is → ⊥
  no_imports_fault (fault.Refused e) contents is p list known = no_list_fault EncodesImport code IsKnownImport numbers ImportFault e contents is p list known
  no_imports_fault (fault.ImportKind byte offset) contents is (b, k, at, i, after, reads, same, above) list known =
      no_stop EncodesImport code IsKnownImport numbers contents b is k list known (unknown_there b after i byte reads same above)
  no_imports_fault (fault.NotModule said) contents is p list known = p
  no_imports_fault (fault.TypeKind byte offset) contents is p list known = p
  no_imports_fault fault.Memory contents is p list known = p

  module _ (u32 : DeterminesRefusal U32Fault) (determines : DeterminesRefusal ImportFault) where
    import_refused : (e : Error) (g : ModuleFault) (contents : Reader) → ImportsFault (fault.Refused e) contents → ImportsFault g contents → fault.Refused e ≡ g
    import_refused e (fault.Refused f) contents p q =
        ap (λ x. fault.Refused x) (one_list_fault EncodesImport code IsKnownImport numbers ImportFault u32 determines e f contents p q)
    import_refused e (fault.ImportKind byte offset) contents p q = absurd (refused_or_unknown e byte offset contents p q)
    import_refused e (fault.NotModule said) contents p q = absurd q
    import_refused e (fault.TypeKind byte offset) contents p q = absurd q
    import_refused e fault.Memory contents p q = absurd q

    import_unknown : (byte offset : ℕ) (g : ModuleFault) (contents : Reader) → ImportsFault (fault.ImportKind byte offset) contents → ImportsFault g contents →
        fault.ImportKind byte offset ≡ g
    import_unknown byte offset (fault.ImportKind byte' offset') contents (a, h, at, i, after, reads, is, above) (b, k, at', j, after', reads', is', above') =
        let same = one_stop EncodesImport code IsKnownImport numbers contents a b h k (unknown_there a after i byte reads is above)
        (unknown_there b after' j byte' reads' is' above') in
        let here = subst (λ z. HasRead EncodesImport i z after) same reads in
        let kinds = ap (λ (z : ImportParts). z.kind) (one_read EncodesImport code b after after' i j here reads').0 in
        ap (λ x. fault.ImportKind x offset) (sym is ∙ kinds ∙ is') ∙ ap (λ o. fault.ImportKind byte' o) (at ∙ ap offset_of same ∙ sym at')
    import_unknown byte offset (fault.Refused e) contents p q = absurd (refused_or_unknown e byte offset contents q p)
    import_unknown byte offset (fault.NotModule said) contents p q = absurd q
    import_unknown byte offset (fault.TypeKind b o) contents p q = absurd q
    import_unknown byte offset fault.Memory contents p q = absurd q

    one_imports_fault : (f g : ModuleFault) (contents : Reader) → ImportsFault f contents → ImportsFault g contents → f ≡ g
    one_imports_fault (fault.Refused e) g contents p q = import_refused e g contents p q
    one_imports_fault (fault.ImportKind byte offset) g contents p q = import_unknown byte offset g contents p q
    one_imports_fault (fault.NotModule said) g contents p q = absurd p
    one_imports_fault (fault.TypeKind byte offset) g contents p q = absurd p
    one_imports_fault fault.Memory g contents p q = absurd p

-- ---- functions and exports

module _ (numbers : PrefixCode (EncodesUnsigned 32)) where
  no_functions_fault : (f : ModuleFault) (contents : Reader) (types : List ℕ) → FunctionsFault f contents → IsNotMemory f →
      IsList (EncodesUnsigned 32) contents types → ⊥
  no_functions_fault (fault.Refused e) contents types p other list =
      no_list_fault (EncodesUnsigned 32) numbers IsAny numbers U32Fault e contents types p list (any_items types)
  no_functions_fault fault.Memory contents types p other list = other refl
  no_functions_fault (fault.NotModule said) contents types p other list = p
  no_functions_fault (fault.ImportKind byte offset) contents types p other list = p
  no_functions_fault (fault.TypeKind byte offset) contents types p other list = p

  one_functions_fault : DeterminesRefusal U32Fault → (f g : ModuleFault) (contents : Reader) → FunctionsFault f contents → FunctionsFault g contents →
      IsNotMemory f → IsNotMemory g → f ≡ g
  one_functions_fault u32 (fault.Refused e) (fault.Refused f) contents p q other other' =
      ap (λ x. fault.Refused x) (one_list_fault (EncodesUnsigned 32) numbers IsAny numbers U32Fault u32 u32 e f contents p q)
  one_functions_fault u32 (fault.Refused e) fault.Memory contents p q other other' = absurd (other' refl)
  one_functions_fault u32 (fault.Refused e) (fault.NotModule said) contents p q other other' = absurd q
  one_functions_fault u32 (fault.Refused e) (fault.ImportKind byte offset) contents p q other other' = absurd q
  one_functions_fault u32 (fault.Refused e) (fault.TypeKind byte offset) contents p q other other' = absurd q
  one_functions_fault u32 fault.Memory g contents p q other other' = absurd (other refl)
  one_functions_fault u32 (fault.NotModule said) g contents p q other other' = absurd p
  one_functions_fault u32 (fault.ImportKind byte offset) g contents p q other other' = absurd p
  one_functions_fault u32 (fault.TypeKind byte offset) g contents p q other other' = absurd p

  module _ (code : PrefixCode EncodesExport) where
    no_exports_fault : (f : ModuleFault) (contents : Reader) (before after : List (List ℕ)) → ExportsFault f contents →
        NamesExported (Some contents) before after → ⊥
    no_exports_fault f contents before after p (exports, list, is) =
        no_refusal (λ e. ListFault EncodesExport ExportFault IsAny e contents)
        (λ e refused. no_list_fault EncodesExport code IsAny numbers ExportFault e contents exports refused list (any_items exports)) f p

    one_exports_fault : DeterminesRefusal U32Fault → DeterminesRefusal ExportFault → (f g : ModuleFault) (contents : Reader) → ExportsFault f contents →
        ExportsFault g contents → f ≡ g
    one_exports_fault u32 determines f g contents p q =
        let P : Error → Type 0 = λ e. ListFault EncodesExport ExportFault IsAny e contents in
        one_refusal P (λ e f p q. one_list_fault EncodesExport code IsAny numbers ExportFault u32 determines e f contents p q) f g p q

-- ---- sections

abbrev reader_or : Reader → Option Reader → Reader
reader_or r None = r
reader_or r (Some found) = found

module _ (numbers : PrefixCode (EncodesUnsigned 32)) (fixed : PrefixCode (EncodesFixed w32)) where
  not_at : {Y : Type 0} (Fault : ModuleFault → Reader → Type 0) (P : Option Reader → Y → Type 0) (f : ModuleFault) (whole : Reader) (id : ℕ) →
      ((contents : Reader) → (y : Y) → Fault f contents → P (Some contents) y → ⊥) → SectionFaultAt f whole id Fault →
      (section : Option Reader) → (y : Y) → IsSection whole id section → P section y → ⊥
  not_at {Y} Fault P f whole id never (inl p) section y (sections, is_module, is) read = fault_or_module numbers fixed whole f sections p is_module
  not_at {Y} Fault P f whole id never (inr (contents, there, p)) section y is read =
      never contents y p (subst (λ s. P s y) (one_found numbers fixed whole id section (Some contents) is there) read)

  module _ (preambles : DeterminesRefusal PreambleFault) (sections : DeterminesRefusal SectionFault) where
    one_at : (Fault : ModuleFault → Reader → Type 0) (f g : ModuleFault) (whole : Reader) (id : ℕ) →
        ((contents : Reader) → Fault f contents → Fault g contents → f ≡ g) → SectionFaultAt f whole id Fault → SectionFaultAt g whole id Fault → f ≡ g
    one_at Fault f g whole id one (inl p) (inl q) = one_fault numbers fixed preambles sections whole f g p q
    one_at Fault f g whole id one (inl p) (inr (contents, (found, is_module, is), q)) = absurd (fault_or_module numbers fixed whole f found p is_module)
    one_at Fault f g whole id one (inr (contents, (found, is_module, is), p)) (inl q) = absurd (fault_or_module numbers fixed whole g found q is_module)
    one_at Fault f g whole id one (inr (a, there, p)) (inr (b, there', q)) =
        let same : a ≡ b = ap (λ o. reader_or a o) (one_found numbers fixed whole id (Some a) (Some b) there there') in
        one b (subst (λ z. Fault f z) same p) q

-- ---- all of them

abbrev IsMemory : ModuleFault → Type 0
IsMemory fault.Memory = Unit {0}
IsMemory _ = ⊥

module _ (numbers : PrefixCode (EncodesUnsigned 32)) (fixed : PrefixCode (EncodesFixed w32)) (imports : PrefixCode EncodesImport)
    (exports : PrefixCode EncodesExport) (sub : PrefixCode EncodesSubType) (rec_type : PrefixCode EncodesRecTypeLength) where
  no_types : (f : ModuleFault) (whole : Reader) → IsNotMemory f → SectionFaultAt f whole 1 TypesFault → HasTypes whole → ⊥
  no_types f whole other p (section, counts, there, counted) =
      not_at numbers fixed TypesFault CountsParameters f whole 1
      (λ contents counts fault (gs, types, known, is). no_types_fault rec_type sub numbers f contents gs fault other types known) p section counts there counted

  no_imports : (f : ModuleFault) (whole : Reader) → SectionFaultAt f whole 2 ImportsFault → HasImports whole → ⊥
  no_imports f whole p (section, n, there, counted) =
      not_at numbers fixed ImportsFault CountsImports f whole 2
      (λ contents n fault (is, list, known, all). no_imports_fault numbers imports f contents is fault list known) p section n there counted

  no_functions : (f : ModuleFault) (whole : Reader) (count : ℕ) → IsNotMemory f → SectionFaultAt f whole 3 FunctionsFault → HasFunctions whole count → ⊥
  no_functions f whole count other p (section, types, there, listed, all) =
      not_at numbers fixed FunctionsFault ListsTypes f whole 3
      (λ contents types fault list. no_functions_fault numbers f contents types fault other list) p section types there listed

  no_names : (f : ModuleFault) (whole : Reader) (count : ℕ) (before : List (List ℕ)) (section : Option Reader) (after : List (List ℕ)) → IsNotMemory f →
      NamesFault f whole count → IsSection whole 7 section → NamesExported section before after → ⊥
  no_names f whole count before section after other (inl (memory, some)) there named = other memory
  no_names f whole count before section after other (inr p) there named =
      not_at numbers fixed ExportsFault (λ s names. NamesExported s before names) f whole 7
      (λ contents names fault exported. no_exports_fault numbers exports f contents before names fault exported) p section after there named

  no_fault : (f : ModuleFault) (whole : Reader) (t : ModuleFunctions) → IsNotMemory f → ModuleFunctionsFault f whole → DescribesFunctions whole t → ⊥
  no_fault f whole t other (inl p) is = no_types f whole other p (is.signatures, t.parameters, is.section_of_types, is.parameters)
  no_fault f whole t other (inr (inl (types, p))) is = no_imports f whole p (is.imports, t.imported, is.section_of_imports, is.imported)
  no_fault f whole t other (inr (inr (inl (types, imported, p)))) is =
      no_functions f whole (length t.types) other p (is.functions, t.types, is.section_of_functions, is.types, refl)
  no_fault f whole t other (inr (inr (inr (types, imported, count, functions, p)))) is =
      let names = is.names in
      no_names f whole count (names.imported ++ replicate (length t.types) []) names.exports names.exported other p names.section_of_exports names.from_exports

  pub memory_alone : (whole : Reader) (f : ModuleFault) (t : ModuleFunctions) → ModuleFunctionsFault f whole → DescribesFunctions whole t → f ≡ fault.Memory
  memory_alone whole fault.Memory t p is = refl
  memory_alone whole (fault.NotModule said) t p is = absurd (no_fault (fault.NotModule said) whole t (λ e. subst IsMemory (sym e) tt) p is)
  memory_alone whole (fault.Refused e) t p is = absurd (no_fault (fault.Refused e) whole t (λ e. subst IsMemory (sym e) tt) p is)
  memory_alone whole (fault.ImportKind byte offset) t p is = absurd (no_fault (fault.ImportKind byte offset) whole t (λ e. subst IsMemory (sym e) tt) p is)
  memory_alone whole (fault.TypeKind byte offset) t p is = absurd (no_fault (fault.TypeKind byte offset) whole t (λ e. subst IsMemory (sym e) tt) p is)

  module _ (u32 : DeterminesRefusal U32Fault) (preambles : DeterminesRefusal PreambleFault) (sections : DeterminesRefusal SectionFault)
      (of_imports : DeterminesRefusal ImportFault) (of_exports : DeterminesRefusal ExportFault) (of_types : DeterminesRefusal SubTypeFault)
      (of_lengths : DeterminesRefusal RecTypeLengthFault) where
    one_names : (f g : ModuleFault) (whole : Reader) (m n : ℕ) → NamesFault f whole m → NamesFault g whole n → IsNotMemory f → IsNotMemory g → f ≡ g
    one_names f g whole m n (inl (memory, some)) q other other' = absurd (other memory)
    one_names f g whole m n (inr p) (inl (memory, some)) other other' = absurd (other' memory)
    one_names f g whole m n (inr p) (inr q) other other' =
        one_at numbers fixed preambles sections ExportsFault f g whole 7 (one_exports_fault numbers exports u32 of_exports f g) p q

    pub one_module_fault : (whole : Reader) (f g : ModuleFault) → ModuleFunctionsFault f whole → ModuleFunctionsFault g whole → IsNotMemory f → IsNotMemory g → f ≡ g
    one_module_fault whole f g (inl p) (inl q) other other' =
        one_at numbers fixed preambles sections TypesFault f g whole 1
        (λ contents a b. one_types_fault rec_type sub numbers u32 of_types of_lengths f g contents a b other other') p q
    one_module_fault whole f g (inl p) (inr (inl (types, q))) other other' = absurd (no_types f whole other p types)
    one_module_fault whole f g (inl p) (inr (inr (inl (types, imported, q)))) other other' = absurd (no_types f whole other p types)
    one_module_fault whole f g (inl p) (inr (inr (inr (types, imported, count, functions, q)))) other other' = absurd (no_types f whole other p types)
    one_module_fault whole f g (inr (inl (types, p))) (inl q) other other' = absurd (no_types g whole other' q types)
    one_module_fault whole f g (inr (inl (types, p))) (inr (inl (types', q))) other other' =
        one_at numbers fixed preambles sections ImportsFault f g whole 2 (one_imports_fault numbers imports u32 of_imports f g) p q
    one_module_fault whole f g (inr (inl (types, p))) (inr (inr (inl (types', imported, q)))) other other' = absurd (no_imports f whole p imported)
    one_module_fault whole f g (inr (inl (types, p))) (inr (inr (inr (types', imported, count, functions, q)))) other other' = absurd (no_imports f whole p imported)
    one_module_fault whole f g (inr (inr (inl (types, imported, p)))) (inl q) other other' = absurd (no_types g whole other' q types)
    one_module_fault whole f g (inr (inr (inl (types, imported, p)))) (inr (inl (types', q))) other other' = absurd (no_imports g whole q imported)
    one_module_fault whole f g (inr (inr (inl (types, imported, p)))) (inr (inr (inl (types', imported', q)))) other other' =
        one_at numbers fixed preambles sections FunctionsFault f g whole 3
        (λ contents a b. one_functions_fault numbers u32 f g contents a b other other') p q
    one_module_fault whole f g (inr (inr (inl (types, imported, p)))) (inr (inr (inr (types', imported', count, functions, q)))) other other' =
        absurd (no_functions f whole count other p functions)
    one_module_fault whole f g (inr (inr (inr (types, imported, count, functions, p)))) (inl q) other other' = absurd (no_types g whole other' q types)
    one_module_fault whole f g (inr (inr (inr (types, imported, count, functions, p)))) (inr (inl (types', q))) other other' = absurd (no_imports g whole q imported)
    one_module_fault whole f g (inr (inr (inr (types, imported, count, functions, p)))) (inr (inr (inl (types', imported', q)))) other other' =
        absurd (no_functions g whole count other' q functions)
    one_module_fault whole f g (inr (inr (inr (types, imported, count, functions, p)))) (inr (inr (inr (types', imported', count', functions', q)))) other other' =
        one_names f g whole count count' p q other other'

use Rattle.std.proofs.Common.{refl, sym, subst, ap, ◌∙◌, arith}
use Rattle.wasm_below.specs.declared.message.Message.TheVariants as message
use Rattle.wasm_decode_opcodes.proofs.GuardLemmas.{lacks_feature, wrong_frame}
use Rattle.wasm_decode_opcodes.proofs.guard.Guard.check.Goals as goal

pub returns-then-lacks_feature-clause-refuses : goal.returns-then-lacks_feature-clause-refuses
returns-then-lacks_feature-clause-refuses c code ks small b is =
    let r = c.args.reader.now in
    lacks_feature c.args.frame code c.args.start c.args.self ks c.refuse.result r c.refuse.new.self small is b (c.if-lacks_feature.ensures.lacks refl) c.refuse.ensures.rewound (c.refuse.ensures.message ∙ ap message.FeatureRequired c.instruction.ensures) c.refuse.ensures.offset

pub returns-then-not-allows-clause-refuses : goal.returns-then-not-allows-clause-refuses
returns-then-not-allows-clause-refuses c code ks small b is =
    let r = c.args.reader.now in
    wrong_frame c.args.frame code c.args.start c.args.self ks c.wrong_frame.result r c.wrong_frame.new.reader small is b (λ h. h.1 (c.if-lacks_feature.ensures.has refl h.0)) (λ h. cc (c.if-not-allows.ensures.1 h)) c.wrong_frame.ensures.back c.wrong_frame.ensures.message c.wrong_frame.ensures.offset

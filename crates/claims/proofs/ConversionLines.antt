-- The front page's lines on the conversions, each quoted from the conversion's own contract. Assumes nothing.
use Rattle.claims.specs.Conversions.{ConversionsAskNothing, ConversionsAnswerAsDefined}

pub conversions-ask-nothing : ConversionsAskNothing
conversions-ask-nothing = record {
  to_read = λ x. tt;
  to_address = λ x. tt;
  to_child = λ x. tt;
  to_limited = λ x. tt;
  to_nsa = λ x. tt;
  to_listed = λ x. tt;
  to_plan = λ x. tt;
  to_block = λ x. tt;
  to_recovered = λ x. tt;
  to_record = λ x. tt;
  to_refusal = λ x. tt;
}

pub conversions-answer-as-defined : ConversionsAnswerAsDefined
conversions-answer-as-defined = record {
  to_read = λ x r h. h;
  to_address = λ x r h. h;
  to_child = λ x r h. h;
  to_limited = λ x r h. h;
  to_nsa = λ x r h. h;
  to_listed = λ x r h. h;
  to_plan = λ x r h. h;
  to_block = λ x r h. h;
  to_recovered = λ x r h. h;
  to_record = λ x r h. h;
  to_refusal = λ x r h. h;
}

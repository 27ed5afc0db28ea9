mod ChangeLemmas
mod FillingLemmas
mod MoveLemmas
mod PassingLemmas
mod PastLemmas
mod SingleLemmas
mod WeighLemmas

pub mod ThreadSources
